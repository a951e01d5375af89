use Rattle.std.proofs.Common.{◌≡◌, ◌++◌, drop, map}
use Rattle.cu_kernel.specs.LocalKernelOf.{local_rule_meaning}
use Rattle.cu_kernel.specs.LocalValid.{rules_binders}
use Rattle.cu_parts.proofs.binders.push_rules.Given as goal

-- what was found and what the rules that are left bind are all
abbrev pub invariant-loop-rule : goal.invariant-loop-rule
invariant-loop-rule l =
    l.found.items ++ rules_binders (map local_rule_meaning (drop l.rule-index l.rules)) ≡ l.fn.found.items ++ rules_binders (map local_rule_meaning l.rules)
