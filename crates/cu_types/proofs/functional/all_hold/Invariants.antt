use Rattle.std.proofs.Common.{◌≡◌, map, take}
use Rattle.cu_types.proofs.functional.all_hold.Given as goal
use Rattle.cu_types.specs.Inference.{holds_function}
use Rattle.cu_types.specs.Table.{shape_of, trees}

abbrev pub invariant-loop-node : goal.invariant-loop-node
invariant-loop-node l = l.holds.items ≡ map holds_function (take l.node-index (trees (map shape_of l.types)))
