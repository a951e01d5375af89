use Rattle.std.proofs.Common.{◌≡◌, ◌++◌, drop, map}
use Rattle.cu_kernel.specs.LocalKernelOf.{local_rule_meaning}
use Rattle.cu_parts.specs.Inside.FreeUses.{free_in_rules}
use Rattle.cu_parts.proofs.free_uses.push_rules.Given as goal

-- what was found and what the rules that are left use are all
abbrev pub invariant-loop-rule : goal.invariant-loop-rule
invariant-loop-rule l =
    l.found.items ++ free_in_rules (map local_rule_meaning (drop l.rule-index l.rules)) ≡ l.fn.found.items ++ free_in_rules (map local_rule_meaning l.rules)
