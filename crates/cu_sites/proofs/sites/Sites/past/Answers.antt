use Rattle.std.proofs.Common.{List, [], subst, sym}
use Rattle.std.proofs.lemmas.List.Elements.{All-nil}
use Rattle.std.proofs.lemmas.Result.{IfOk-weaker}
use Rattle.std.specs.List.{All}
use Rattle.cu_lex.specs.Reading.{position_of}
use Rattle.cu_syntax.specs.declared.declarations.Declaration.{Declaration}
use Rattle.cu_syntax.specs.declared.name.Name.{Name}
use Rattle.cu_syntax.specs.Owners.{DeclarationIsOf, NameIsOf, QualifierIsOf}
use Rattle.cu_translation.specs.Sites.{in_block, in_function, past}
use Rattle.cu_uses.specs.Gathered.{Adds, names_meaning, pattern_binds}
use Rattle.cu_sites.specs.Inside.Entering.{Enters}
use Rattle.cu_sites.specs.Inside.Walked.{block_of, qualifier_of}
use Rattle.cu_sites.proofs.PastLemmas.{past_block, past_condition, past_generator}
use Rattle.cu_sites.proofs.sites.Sites.past.Goals as goal

pub returns-in_ok-names-in-Generator : goal.returns-in_ok-names-in-Generator
returns-in_ok-names-in-Generator c t spot is of =
    let place = c.in-Generator.place in
    let p = c.in-Generator.p in
    let names = c.as_slice.result.now in
    let parts = subst (QualifierIsOf t.owner t.names) c.in-Generator.is of in
    let found = subst (λ (xs : List Name). Adds t.owner t.names [] (pattern_binds t.names p) xs) (sym c.as_slice.ensures.value) (c.in_ok-names-in-Generator.ensures t parts.1) in
    IfOk-weaker c.in_function.result (λ inner. Enters t c.args.self.now (in_function (position_of place) (names_meaning t.names names) spot) inner c.in_function.new.self)
    (λ inner. Enters t c.args.self.now (past (qualifier_of t.names c.args.q.now) spot) inner c.in_function.new.self)
    (λ inner. past_generator t c.args.self.now c.in_function.new.self c.args.q.now place p c.in-Generator.field-2 names spot inner c.in-Generator.is found)
    (c.in_function.ensures t spot is (found.owned (All-nil (NameIsOf t.owner t.names))))

pub returns-in-Declarations : goal.returns-in-Declarations
returns-in-Declarations c t spot is of =
    let ds = c.in-Declarations.ds in
    let parts = subst (QualifierIsOf t.owner t.names) c.in-Declarations.is of in
    IfOk-weaker c.in_block.result (λ inner. Enters t c.args.self.now (in_block (block_of t.names c.as_slice-in-Declarations.result.now) spot) inner c.in_block.new.self)
    (λ inner. Enters t c.args.self.now (past (qualifier_of t.names c.args.q.now) spot) inner c.in_block.new.self)
    (λ inner enters. past_block t c.args.self.now c.in_block.new.self c.args.q.now c.in-Declarations.field-0 ds spot inner c.in-Declarations.is
    (subst (λ (xs : List Declaration). Enters t c.args.self.now (in_block (block_of t.names xs) spot) inner c.in_block.new.self) c.as_slice-in-Declarations.ensures.value enters))
    (c.in_block.ensures t spot is (subst (All (DeclarationIsOf t.owner t.names)) (sym c.as_slice-in-Declarations.ensures.value) parts.1))

pub returns-in-Condition : goal.returns-in-Condition
returns-in-Condition c t spot is of = past_condition t c.args.self.now c.args.q.now c.in-Condition.field-0 c.in-Condition.field-1 spot c.args.at c.in-Condition.is is
