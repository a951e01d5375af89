use Rattle.std.proofs.Common.{◌∙◌, ap, rules}
use Rattle.std.proofs.lemmas.Int.{to_z-of_z}
use Rattle.std.specs.Prelude.{neg_ℤ}
use mir.Syntax.{w128}
use mir.Val.{SFits}
use Rattle.cu_forms.specs.Inside.Lists.{number_term}
use Rattle.cu_forms.proofs.operators.negative.Goals as goal

pub returns-in-Some : goal.returns-in-Some
returns-in-Some c =
    let in_range : SFits w128 c.in-Some.negated = search rules in
    let given : SFits w128 c.args.value = search rules in
    c.number.ensures
    ∙ ap number_term (to_z-of_z w128 c.in-Some.negated in_range ∙ c.in-Some.ensures.1 ∙ ap neg_ℤ (to_z-of_z w128 c.args.value given))
