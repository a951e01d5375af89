use Rattle.std.proofs.Common.{◌≡◌, drop}
use Rattle.cu_calculus.specs.Choose.{has_variable}
use Rattle.cu_crwl.specs.Inside.Rows.{rows_meaning}
use Rattle.cu_crwl.proofs.choose.some_is_free.Given as goal

abbrev pub invariant-loop-row : goal.invariant-loop-row
invariant-loop-row l = has_variable l.position (rows_meaning (drop l.row-index l.rows)) ≡ has_variable l.position (rows_meaning l.rows)
