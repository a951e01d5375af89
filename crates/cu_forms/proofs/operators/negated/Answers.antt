use Rattle.std.proofs.Common.{◌∙◌, ap, rules}
use Rattle.std.proofs.lemmas.Int.{to_z-of_z}
use Rattle.std.specs.Prelude.{neg_ℤ}
use mir.Syntax.{w128}
use mir.Val.{SFits}
use Rattle.cu_forms.specs.Inside.Lists.{number_term}
use Rattle.cu_forms.proofs.CallLemmas.{if_ok}
use Rattle.cu_forms.proofs.OperatorLemmas.{negated_call, negated_number}
use Rattle.cu_forms.proofs.operators.negated.Goals as goal

pub returns-in-Some : goal.returns-in-Some
returns-in-Some g c w tells =
    let given : SFits w128 c.in-Some.value = search rules in
    if_ok c.negative.result
    (λ t e. e ∙ ap (λ n. number_term (neg_ℤ n)) (to_z-of_z w128 c.in-Some.value given) ∙ negated_number w.around.names c.args.operand c.in-Some.value c.in-Some.is)
    c.negative.ensures

pub returns-in_ok-arguments-in-None : goal.returns-in_ok-arguments-in-None
returns-in_ok-arguments-in-None g c w tells =
    if_ok c.built_in.result
    (λ t e. e ∙ negated_call w.around.names c.args.operand c.in_ok-arguments-in-None.arguments.items c.in-None.is c.in_ok-arguments-in-None.ensures.items)
    (c.built_in.ensures w tells)
