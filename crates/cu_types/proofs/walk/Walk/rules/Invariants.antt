use Rattle.std.proofs.Common.{drop, map}
use Rattle.cu_kernel.specs.KernelOf.{rule_meaning}
use Rattle.cu_types.proofs.walk.Walk.rules.Given as goal
use Rattle.cu_types.specs.Inside.Members.{rules_between}
use Rattle.cu_types.specs.Inside.Walking.{IsWalking, heads, scope}

-- the rules that are left, read off, give the whole
abbrev pub invariant-loop-rule : goal.invariant-loop-rule
invariant-loop-rule l =
    IsWalking l.initial.self l.self
    (rules_between (heads l.initial.self) (scope l.initial.self) l.first l.right (map rule_meaning (drop l.rule-index l.rules)))
    (rules_between (heads l.initial.self) (scope l.initial.self) l.first l.right (map rule_meaning l.rules))
