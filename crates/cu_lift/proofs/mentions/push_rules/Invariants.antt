use Rattle.std.proofs.Common.{◌≡◌, ◌++◌, drop, flat_map, map}
use Rattle.cu_calculus.specs.Claims.{mentions}
use Rattle.cu_kernel.specs.KernelOf.{rule_meaning}
use Rattle.cu_lift.specs.Inside.MentionsOf.{mention_meanings}
use Rattle.cu_lift.proofs.mentions.push_rules.Given as goal

abbrev pub invariant-loop-rule : goal.invariant-loop-rule
invariant-loop-rule l =
    mention_meanings l.found.items ++ flat_map (λ rule. mentions rule.body) (map rule_meaning (drop l.rule-index l.rules))
    ≡ mention_meanings l.fn.found.items ++ flat_map (λ rule. mentions rule.body) (map rule_meaning l.rules)
