use Rattle.std.proofs.Common.{◌≡◌, drop, map}
use Rattle.cu_kernel.specs.Captures.{rules_use}
use Rattle.cu_kernel.specs.LocalKernelOf.{local_rule_meaning}
use Rattle.cu_parts.specs.Inside.Capturing.{is_met}
use Rattle.cu_parts.proofs.capturing.rules_use.Given as goal

-- the rules that are left use the variable where any does
abbrev pub invariant-loop-rule : goal.invariant-loop-rule
invariant-loop-rule l =
    rules_use (is_met l.met) l.x (map local_rule_meaning (drop l.rule-index l.rules)) ≡ rules_use (is_met l.met) l.x (map local_rule_meaning l.rules)
