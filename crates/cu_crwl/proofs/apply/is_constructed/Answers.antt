use Rattle.std.proofs.Common.{Bool, ◌&&◌, ap, eq-eqb, sym, ◌∙◌}
use Rattle.cu_calculus.specs.Answered.{same_values}
use Rattle.cu_calculus.specs.Value.{values_of}
use Rattle.cu_crwl.proofs.Forms.{built_form}
use Rattle.cu_crwl.proofs.apply.is_constructed.Goals as goal

pub returns-else-other-constructor : goal.returns-else-other-constructor
returns-else-other-constructor c =
    c.values_are.ensures
    ∙ ap (λ (b : Bool). b && same_values (values_of c.deref.result.now) (values_of c.args.arguments.now))
    (sym (eq-eqb c.in-Con.other.0 c.args.constructor.0 c.if-other-constructor.false))
    ∙ sym (built_form c.args.constructor c.in-Con.other c.in-Con.field-1 (values_of c.args.arguments.now) c.args.value.now c.deref.result.now c.in-Con.ensures
    (c.deref.ensures.value ∙ c.in_ok-parts-in-Con.ensures))
