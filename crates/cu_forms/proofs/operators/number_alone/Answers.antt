use Rattle.std.proofs.Common.{◌≡◌, ◌∙◌, Option, ℤ}
use Rattle.cu_syntax.specs.declared.expressions.ExpressionNode.TheVariants as node
use Rattle.cu_forms.specs.Forms.{number_alone_form}
use Rattle.cu_forms.proofs.CallLemmas.{ok_is}
use Rattle.cu_forms.proofs.OperatorLemmas.{numbered, numberless}
use Rattle.cu_forms.proofs.operators.number_alone.Goals.{in-Literal, in_default}
use Rattle.cu_forms.proofs.operators.number_alone.Goals as goal

pub returns : goal.returns
returns c names =
    let P = λ (n : Option ℤ). n ≡ number_alone_form names c.args.e in
    let v = c.in_ok-found.field-0 in
    let meaning = c.in_ok-found.ensures.meaning names in
    elim c.match-branch-2.branch [
      | in-Literal k ↦ ok_is P c.match-branch-2.result _ k.result-is
          (k.number_in.ensures ∙ numbered names c.args.e v (node.Literal k.in-Literal.field-0 k.in-Literal.found) meaning k.in-Literal.is)
      | in_default k ↦ ok_is P c.match-branch-2.result _ k.result-is (numberless names c.args.e v meaning k.in_default.not-Literal)
    ]
