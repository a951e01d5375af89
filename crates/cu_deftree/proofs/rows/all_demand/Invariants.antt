use Rattle.std.proofs.Common.{◌≡◌, drop}
use Rattle.std.specs.List.{list_all}
use Rattle.cu_deftree.specs.Inside.RowsOf.{all_rows}
use Rattle.cu_deftree.specs.Rows.{demands}
use Rattle.cu_deftree.proofs.rows.all_demand.Given as goal

abbrev pub invariant-loop-row : goal.invariant-loop-row
invariant-loop-row l = list_all (demands l.position) (all_rows (drop l.row-index l.rows)) ≡ list_all (demands l.position) (all_rows l.rows)
