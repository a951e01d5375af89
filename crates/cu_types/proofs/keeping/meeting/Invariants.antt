use Rattle.std.proofs.Common.{◌≡◌, map, take}
use Rattle.cu_types.proofs.keeping.meeting.Given as goal
use Rattle.cu_types.specs.Inside.Keeping.{meets}
use Rattle.cu_types.specs.Table.{shape_of, trees}

abbrev pub invariant-loop-node : goal.invariant-loop-node
invariant-loop-node l = l.found.items ≡ map (meets l.variables) (take l.node-index (trees (map shape_of l.types)))
