use Rattle.std.proofs.Common.{Bool, ◌&&◌, ap, sym, ◌∙◌}
use Rattle.cu_calculus.specs.Answered.{same_values}
use Rattle.cu_calculus.specs.Value.{values_of}
use Rattle.cu_crwl.proofs.Forms.{part_form}
use Rattle.cu_crwl.proofs.apply.is_applied.Goals as goal

pub returns-else-not-heads_are : goal.returns-else-not-heads_are
returns-else-not-heads_are c =
    c.values_are.ensures
    ∙ ap (λ (b : Bool). b && same_values (values_of c.deref.result.now) (values_of c.args.arguments.now))
    (sym (sym c.heads_are.ensures ∙ c.if-not-heads_are.false))
    ∙ sym (part_form c.args.head c.in-Part.other c.in-Part.field-1 (values_of c.args.arguments.now) c.args.value.now c.deref.result.now c.in-Part.ensures
    (c.deref.ensures.value ∙ c.in_ok-parts-in-Part.ensures))
