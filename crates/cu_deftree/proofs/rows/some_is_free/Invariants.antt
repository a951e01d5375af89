use Rattle.std.proofs.Common.{◌≡◌, not, drop}
use Rattle.std.specs.List.{list_any}
use Rattle.cu_deftree.specs.Inside.RowsOf.{all_rows}
use Rattle.cu_deftree.specs.Rows.{demands}
use Rattle.cu_deftree.proofs.rows.some_is_free.Given as goal

abbrev pub invariant-loop-row : goal.invariant-loop-row
invariant-loop-row l =
    list_any (λ row. not (demands l.position row)) (all_rows (drop l.row-index l.rows)) ≡ list_any (λ row. not (demands l.position row)) (all_rows l.rows)
