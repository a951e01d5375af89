use Rattle.std.proofs.Common.{◌≡◌, drop, map}
use Rattle.std.specs.List.{list_all}
use Rattle.cu_kernel.specs.LocalKernelOf.{local_rule_meaning}
use Rattle.cu_kernel.specs.LocalValid.{rule_passes}
use Rattle.cu_parts.specs.Inside.KnownHeads.{known_heads}
use Rattle.cu_parts.proofs.heads.rules_pass.Given as goal

-- the rules that are left pass where all do
abbrev pub invariant-loop-rule : goal.invariant-loop-rule
invariant-loop-rule l =
    list_all (rule_passes (known_heads l.known)) (map local_rule_meaning (drop l.rule-index l.rules))
    ≡ list_all (rule_passes (known_heads l.known)) (map local_rule_meaning l.rules)
