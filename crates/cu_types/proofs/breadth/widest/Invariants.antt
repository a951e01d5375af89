use Rattle.std.proofs.Common.{◌≡◌, max, slice_index, drop}
use Rattle.cu_types.proofs.breadth.widest.Given as goal
use Rattle.cu_types.specs.Inside.Breadths.{widest}

-- the greatest so far, and of those that are left, is that of all
abbrev pub invariant-loop-argument : goal.invariant-loop-argument
invariant-loop-argument l =
    max l.found (widest (slice_index l.breadths) (drop l.argument-index l.arguments)) ≡ widest (slice_index l.breadths) l.arguments
