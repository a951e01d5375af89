use Rattle.std.proofs.Common.{◌≡◌, drop, map}
use Rattle.std.specs.List.{list_any}
use Rattle.cu_calculus.specs.Value.{values_of}
use Rattle.cu_kernel.specs.KernelOf.{rule_meaning}
use Rattle.cu_crwl.specs.Meaning.{statement_of}
use Rattle.cu_crwl.specs.Table.{rule_gives}
use Rattle.cu_crwl.proofs.apply.rules_give.Given as goal

abbrev pub invariant-loop-rule : goal.invariant-loop-rule
invariant-loop-rule l =
    list_any (rule_gives (values_of l.values) (statement_of l.cited) l.value) (map rule_meaning (drop l.rule-index l.rules))
    ≡ list_any (rule_gives (values_of l.values) (statement_of l.cited) l.value) (map rule_meaning l.rules)
