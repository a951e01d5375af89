use Rattle.std.proofs.Common.{Option, ap, sym, ◌∙◌}
use Rattle.std.specs.Option.{option_map}
use denote.Ref.{Bor}
use Rattle.cu_kernel.specs.TypesOf.{type_of}
use Rattle.cu_kernel.specs.declared.type_term.TypeTerm.{TypeTerm}
use Rattle.cu_flattext.specs.Inside.Stands.{lowered_of}
use Rattle.cu_flattext.specs.TypeTexts.{expanded_within}
use Rattle.cu_flattext.proofs.ScopeLemmas.{expanded_in_full, not_expanded}
use Rattle.cu_flattext.proofs.types.expansion_within.Goals as goal

pub returns-then-depth-eq0 : goal.returns-then-depth-eq0
returns-then-depth-eq0 c = λ arguments long.
    ap (λ d. expanded_within d (lowered_of c.args.wording.now) c.args.s arguments) c.if-depth-eq0.true

pub returns-in-Some : goal.returns-in-Some
returns-in-Some c = λ arguments long.
    expanded_in_full (lowered_of c.args.wording.now) c.args.depth c.args.s arguments c.args.count _ c.if-depth-eq0.false long
    (ap (λ (o : Option (Bor TypeTerm)). option_map (λ t. type_of t.now) o) (sym c.in-Some.is) ∙ c.in_ok-body.ensures)

pub returns-in-None : goal.returns-in-None
returns-in-None c = λ arguments long.
    not_expanded (lowered_of c.args.wording.now) c.args.depth c.args.s arguments c.args.count long
    (ap (λ (o : Option (Bor TypeTerm)). option_map (λ t. type_of t.now) o) (sym c.in-None.is) ∙ c.in_ok-body.ensures)
