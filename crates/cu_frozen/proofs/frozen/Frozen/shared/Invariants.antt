-- The segments that were shared are a prefix of all of them.
use Rattle.std.proofs.Common.{◌≡◌, map, take}
use Rattle.std.specs.Arc.{arc_value}
use Rattle.cu_frozen.proofs.frozen.Frozen.shared.Given as goal

abbrev pub invariant-loop-segment : goal.invariant-loop-segment
invariant-loop-segment l = map arc_value l.segments.items ≡ map arc_value (take l.segment-index l.segment-items)
