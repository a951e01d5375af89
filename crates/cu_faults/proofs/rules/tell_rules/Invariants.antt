use Rattle.std.proofs.Common.{◌≡◌, ℕ, List, drop}
use Rattle.cu_faults.proofs.RuleLemmas.{others_faults}
use Rattle.cu_faults.proofs.rules.tell_rules.Given as goal

-- nothing was told, and no rule that went before is a fault
abbrev pub invariant-loop-rule : goal.invariant-loop-rule
invariant-loop-rule l = record {
  nothing : l.first ≡ l.fn.first;
  faults : (names : List (List ℕ)) → others_faults names l.group.first (drop l.rule-index l.rule-items) ≡ others_faults names l.group.first l.rule-items;
}
