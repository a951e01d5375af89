use Rattle.cu_kernel.specs.KernelOf.{rule_meaning}
use Rattle.cu_kernel.specs.LocalKernelOf.{local_rule_meaning}
use Rattle.cu_lift.proofs.LiftedCopies.{each_made}
use Rattle.cu_lift.specs.Inside.LiftedPlaces.{lifting_meaning}
use Rattle.cu_lift.specs.Lifting.{lifted_rule}
use Rattle.cu_lift.proofs.renaming.lift_rules.Goals as goal

pub returns : goal.returns
returns c =
    each_made rule_meaning local_rule_meaning (lifted_rule (lifting_meaning c.args.renaming.now) c.args.variables.now) c.loop-rule.lifted.items
    c.args.rules.now c.loop-rule.rule-index c.loop-rule-test.false c.loop-rule.invariant
