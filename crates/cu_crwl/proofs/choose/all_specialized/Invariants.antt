use Rattle.std.proofs.Common.{◌≡◌, ◌++◌, drop, map}
use Rattle.cu_calculus.specs.Choose.{specialized_row}
use Rattle.cu_crwl.specs.Inside.Rows.{rows_meaning}
use Rattle.cu_crwl.proofs.choose.all_specialized.Given as goal

abbrev pub invariant-loop-row : goal.invariant-loop-row
invariant-loop-row l = rows_meaning l.all.items ++ map (specialized_row l.position l.count) (rows_meaning (drop l.row-index l.rows)) ≡ map (specialized_row l.position l.count) (rows_meaning l.rows)
