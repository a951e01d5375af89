-- The segments that are left show the node as all of them do.
use Rattle.std.proofs.Common.{map}
use Rattle.std.specs.Arc.{arc_value}
use Rattle.cu_frozen.proofs.Stacks.{Reaches}
use Rattle.cu_frozen.proofs.frozen.Frozen.spot.Given as goal

abbrev pub invariant-loop-left : goal.invariant-loop-left
invariant-loop-left l = Reaches (map arc_value l.self-inside.segments.items) l.left l.id

abbrev pub decreases-loop-left : goal.decreases-loop-left
decreases-loop-left l = l.left
