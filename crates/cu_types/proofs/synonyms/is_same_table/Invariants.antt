use Rattle.std.proofs.Common.{◌≡◌, map, take}
use Rattle.cu_types.proofs.synonyms.is_same_table.Given as goal
use Rattle.cu_types.specs.Table.{shape_of}

abbrev pub invariant-loop-index : goal.invariant-loop-index
invariant-loop-index l = map shape_of (take l.index l.left) ≡ map shape_of (take l.index l.right)
