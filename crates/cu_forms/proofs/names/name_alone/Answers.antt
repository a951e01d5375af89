use Rattle.std.proofs.Common.{◌≡◌, ◌∙◌, Option, Some, ap, subst}
use Rattle.std.specs.Option.{option_map}
use Rattle.cu_syntax.specs.Owners.{ExpressionNodeIsOf}
use Rattle.cu_syntax.specs.declared.expressions.ExpressionNode.TheVariants as node
use Rattle.cu_translation.specs.Meaning.{referent_meaning}
use Rattle.cu_translation.specs.declared.referents.Referent.{Referent}
use Rattle.cu_forms.specs.Forms.{name_alone_form}
use Rattle.cu_forms.proofs.CallLemmas.{ok_is}
use Rattle.cu_forms.proofs.OperatorLemmas.{named_alone, nameless}
use Rattle.cu_forms.proofs.names.name_alone.Goals.{in-Variable, in-Constructor, in-TupleConstructor, in_default}
use Rattle.cu_forms.proofs.names.name_alone.Goals as goal

pub returns : goal.returns
returns g c w local tells sees is =
    let P = λ (r : Option Referent). option_map referent_meaning r ≡ name_alone_form w local c.args.e in
    let v = c.in_ok-name.field-0 in
    let meaning = c.in_ok-name.ensures.meaning w.names in
    let owned = c.in_ok-name.ensures.owned w.owner w.names is in
    elim c.match-branch-2.branch [
      | in-Variable k ↦ ok_is P c.match-branch-2.result _ k.result-is
          (ap Some (k.referent.ensures w local tells sees (subst (ExpressionNodeIsOf w.owner w.names) k.in-Variable.is owned).1)
          ∙ named_alone w local c.args.e v (node.Variable k.in-Variable.field-0 k.in-Variable.name) meaning k.in-Variable.is)
      | in-Constructor k ↦ ok_is P c.match-branch-2.result _ k.result-is
          (ap Some (k.value.ensures w tells (subst (ExpressionNodeIsOf w.owner w.names) k.in-Constructor.is owned).1)
          ∙ named_alone w local c.args.e v (node.Constructor k.in-Constructor.field-0 k.in-Constructor.name) meaning k.in-Constructor.is)
      | in-TupleConstructor k ↦ ok_is P c.match-branch-2.result _ k.result-is
          (ap Some (k.prelude.ensures w tells)
          ∙ named_alone w local c.args.e v (node.TupleConstructor k.in-TupleConstructor.field-0 k.in-TupleConstructor.count) meaning k.in-TupleConstructor.is)
      | in_default k ↦ ok_is P c.match-branch-2.result _ k.result-is
          (nameless w local c.args.e v meaning k.in_default.not-Variable k.in_default.not-Constructor k.in_default.not-TupleConstructor)
    ]
