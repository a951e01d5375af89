use Rattle.std.proofs.Common.{◌≡◌, map, take}
use Rattle.cu_types.proofs.shared.SharedType.breadth.Given as goal
use Rattle.cu_types.specs.Equations.{breadth}
use Rattle.cu_types.specs.Table.{shape_of, trees}

abbrev pub invariant-loop-node : goal.invariant-loop-node
invariant-loop-node l =
    l.breadths.items ≡ map breadth (take l.node-index (trees (map shape_of l.opened.types.now)))
