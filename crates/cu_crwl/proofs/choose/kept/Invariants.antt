use Rattle.std.proofs.Common.{◌≡◌, ◌++◌, drop}
use Rattle.std.specs.Prelude.{filter}
use Rattle.cu_calculus.specs.Choose.{demand_at}
use Rattle.cu_crwl.specs.Inside.Rows.{keeps, rows_meaning}
use Rattle.cu_crwl.proofs.choose.kept.Given as goal

abbrev pub invariant-loop-row : goal.invariant-loop-row
invariant-loop-row l = rows_meaning l.some.items ++ filter (λ row. keeps l.keep (demand_at l.position row)) (rows_meaning (drop l.row-index l.rows)) ≡ filter (λ row. keeps l.keep (demand_at l.position row)) (rows_meaning l.rows)
