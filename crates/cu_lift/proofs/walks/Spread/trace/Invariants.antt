use Rattle.std.proofs.Common.{◌≡◌, ◌<◌, reverse, Some, length, slice_get}
use Rattle.cu_cycles.specs.Graph.{Graph}
use Rattle.cu_lift.specs.Inside.Trail.{IsTrail, Steps}
use Rattle.cu_lift.specs.declared.walks.Found.{Found}
use Rattle.cu_lift.proofs.walks.Spread.trace.Given as goal

-- the walk so far, read backwards, leads from a place to the last one
abbrev pub invariant-loop-at : goal.invariant-loop-at
invariant-loop-at l =
    (l.at < length l.self.found.items)
    × ((g : Graph) (here last : Found) → IsTrail g l.self → slice_get l.self.found.items l.at ≡ Some here
    → slice_get l.self.found.items l.place ≡ Some last → Steps g here.function (reverse l.walk.items) last.function)

abbrev pub decreases-loop-at : goal.decreases-loop-at
decreases-loop-at l = l.at
