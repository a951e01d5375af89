use Rattle.std.proofs.Common.{◌≡◌, ◌<◌, length, map}
use Rattle.cu_types.proofs.functional.takes.Given as goal
use Rattle.cu_types.specs.Inference.{takes_function}
use Rattle.cu_types.specs.Table.{at, shape_of, trees}

-- what is left tells what the whole tells
abbrev pub decreases-loop-left : goal.decreases-loop-left
decreases-loop-left l = l.left

abbrev pub invariant-loop-left : goal.invariant-loop-left
invariant-loop-left l = record {
  within : l.here < length l.types;
  same : takes_function l.left (at (trees (map shape_of l.types)) l.here)
      ≡ takes_function l.count (at (trees (map shape_of l.types)) l.place);
}
