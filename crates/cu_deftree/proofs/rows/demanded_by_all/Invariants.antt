use Rattle.std.proofs.Common.{◌≡◌}
use Rattle.cu_deftree.specs.Inside.RowsOf.{all_rows}
use Rattle.cu_deftree.specs.Rows.{demanded_by_all}
use Rattle.cu_deftree.proofs.RowSteps.{demanded_past}
use Rattle.cu_deftree.proofs.rows.demanded_by_all.Given as goal

abbrev pub invariant-loop-position : goal.invariant-loop-position
invariant-loop-position l = demanded_past l.position (all_rows l.rows) ≡ demanded_by_all (all_rows l.rows)
