use Rattle.std.proofs.Common.{◌≡◌, map, take}
use Rattle.cu_peg.specs.Inside.CallTables.{calls_by}
use Rattle.cu_peg.proofs.calls.call_conditions.Given as goal

abbrev pub invariant-loop-row : goal.invariant-loop-row
invariant-loop-row l = l.conditions.items ≡ map (calls_by l.quantifier l.nullable) (take l.row-index l.rows)
