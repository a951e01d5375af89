use Rattle.std.proofs.Common.{◌≡◌, ◌++◌, drop, map}
use Rattle.cu_deftree.specs.Inside.Groups.{picked}
use Rattle.cu_deftree.specs.Inside.RowsOf.{all_rows}
use Rattle.cu_deftree.specs.Rows.{specialized}
use Rattle.cu_deftree.proofs.rows.specialized_at.Given as goal

abbrev pub invariant-loop-index : goal.invariant-loop-index
invariant-loop-index l =
    all_rows l.some.items ++ map (specialized l.position l.arguments) (picked (all_rows l.rows) (drop l.index-index l.indices))
    ≡ map (specialized l.position l.arguments) (picked (all_rows l.rows) l.indices)
