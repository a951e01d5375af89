use Rattle.std.proofs.Common.{◌≡◌, map, take}
use Rattle.cu_kernel.specs.KernelOf.{rule_meaning}
use Rattle.cu_kernel.specs.LocalKernelOf.{local_rule_meaning}
use Rattle.cu_lift.specs.Inside.LiftedPlaces.{lifting_meaning}
use Rattle.cu_lift.specs.Lifting.{lifted_rule}
use Rattle.cu_lift.proofs.renaming.lift_rules.Given as goal

-- the rules so far
abbrev pub invariant-loop-rule : goal.invariant-loop-rule
invariant-loop-rule l =
    map rule_meaning l.lifted.items ≡ map (λ rule. lifted_rule (lifting_meaning l.renaming) l.variables (local_rule_meaning rule)) (take l.rule-index l.rules)
