-- The body is that of a function of the code.
use Rattle.std.proofs.Common.{refl}
use Rattle.cu_flat.specs.declared.expr.FlatBody.TheVariants as body
use Rattle.cu_step.proofs.Nesting.{rule_nests}
use Rattle.cu_step.proofs.redex.Redex.call_step.Goals as goal

pub building_step-requires-clause-nests : goal.building_step-requires-clause-nests
building_step-requires-clause-nests g c κs within =
    rule_nests c.args.program.now c.args.f c.body.result c.in-Some-Rule.field-0 (body.Rule c.in-Some-Rule.params c.in-Some-Rule.body) c.in-Some-Rule.params.items
    c.in-Some-Rule.body c.requires.code c.body.ensures c.in-Some-Rule.is c.in-Some-Rule.field-0-is refl
