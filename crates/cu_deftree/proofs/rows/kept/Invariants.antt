use Rattle.std.proofs.Common.{◌≡◌, ◌++◌, drop}
use Rattle.std.specs.Prelude.{filter}
use Rattle.cu_deftree.specs.Inside.RowsOf.{all_rows, keeps}
use Rattle.cu_deftree.specs.Rows.{demand_at}
use Rattle.cu_deftree.proofs.rows.kept.Given as goal

abbrev pub invariant-loop-row : goal.invariant-loop-row
invariant-loop-row l =
    all_rows l.some.items ++ filter (λ row. keeps l.keep (demand_at l.position row)) (all_rows (drop l.row-index l.rows))
    ≡ filter (λ row. keeps l.keep (demand_at l.position row)) (all_rows l.rows)
