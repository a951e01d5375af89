use Rattle.std.proofs.Common.{◌≡◌, ◌++◌, drop, map}
use Rattle.cu_deftree.specs.Inside.RowsOf.{all_rows}
use Rattle.cu_deftree.specs.Rows.{row_of_rule}
use Rattle.cu_kernel.specs.KernelOf.{rule_meaning}
use Rattle.cu_deftree.proofs.rows.rule_rows.Given as goal

abbrev pub invariant-loop-rule : goal.invariant-loop-rule
invariant-loop-rule l =
    all_rows l.rows.items ++ map (row_of_rule l.parameters) (map rule_meaning (drop l.rule-index l.rules))
    ≡ map (row_of_rule l.parameters) (map rule_meaning l.rules)
