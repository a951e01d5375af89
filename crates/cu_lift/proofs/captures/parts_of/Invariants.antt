use Rattle.std.proofs.Common.{◌≡◌, ◌++◌, drop, map}
use Rattle.cu_kernel.specs.LocalKernelOf.{local_rule_meaning}
use Rattle.cu_lift.specs.Inside.Capturing.{rules_parts}
use Rattle.cu_lift.proofs.captures.parts_of.Given as goal

abbrev pub invariant-loop-rule : goal.invariant-loop-rule
invariant-loop-rule l =
    l.found.items ++ rules_parts (map local_rule_meaning (drop l.rule-index l.rules)) ≡ rules_parts (map local_rule_meaning l.rules)
