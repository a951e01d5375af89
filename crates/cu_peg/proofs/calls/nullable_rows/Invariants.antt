use Rattle.std.proofs.Common.{◌≡◌, map, take}
use Rattle.cu_peg.specs.Inside.CallTables.{nullable_by}
use Rattle.cu_peg.proofs.calls.nullable_rows.Given as goal

abbrev pub invariant-loop-row : goal.invariant-loop-row
invariant-loop-row l = l.conditions.items ≡ map nullable_by (take l.row-index l.rows)
