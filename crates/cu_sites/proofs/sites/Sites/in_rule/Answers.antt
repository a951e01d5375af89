use Rattle.std.proofs.Common.{refl, subst, sym}
use Rattle.std.proofs.lemmas.List.Elements.{All-nil}
use Rattle.std.proofs.lemmas.Result.{IfOk-weaker}
use Rattle.std.specs.List.{All}
use Rattle.cu_lex.specs.Reading.{position_of}
use Rattle.cu_syntax.specs.Owners.{NameIsOf}
use Rattle.cu_translation.specs.Sites.{in_function}
use Rattle.cu_uses.specs.Gathered.{names_meaning, patterns_bind}
use Rattle.cu_sites.specs.Inside.Entering.{Enters}
use Rattle.cu_sites.proofs.PartLemmas.{enters_patterns}
use Rattle.cu_sites.proofs.sites.Sites.in_rule.Goals as goal

pub returns : goal.returns
returns c t spot is all =
    let ps = c.args.parameters.now in
    let place = position_of c.args.place in
    let named = (c.in_ok-names.ensures t all).owned (All-nil (NameIsOf t.owner t.names)) in
    IfOk-weaker c.in_function.result
    (λ inner. Enters t c.args.self.now (in_function place (names_meaning t.names c.as_slice.result.now) spot) inner c.in_function.new.self)
    (λ inner. Enters t c.args.self.now (in_function place (patterns_bind t.names ps) spot) inner c.in_function.new.self)
    (λ inner enters.
    enters_patterns t c.args.self.now c.in_function.new.self (λ xs. in_function place xs spot) ps ps c.in_ok-names.names.items c.as_slice.result.now inner refl all
    (c.in_ok-names.ensures t) c.as_slice.ensures.value (λ known. enters))
    (c.in_function.ensures t spot is (subst (All (NameIsOf t.owner t.names)) (sym c.as_slice.ensures.value) named))
