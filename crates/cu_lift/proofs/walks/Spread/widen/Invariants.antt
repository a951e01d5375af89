use Rattle.std.proofs.Common.{◌≡◌, ◌<◌, ℕ, Some, slice_get, true}
use Rattle.cu_cycles.specs.Graph.{rows_in}
use Rattle.cu_lift.specs.Inside.Trail.{Grows, IsTrail}
use Rattle.cu_lift.proofs.walks.Spread.widen.Given as goal

-- a search, and the targets before a place were visited
abbrev pub invariant-loop-target : goal.invariant-loop-target
invariant-loop-target l =
    IsTrail (rows_in l.graph) l.self × Grows l.fn.self l.self
    × ((k w : ℕ) → k < l.target-index → slice_get l.row k ≡ Some w → slice_get l.self.met.items w ≡ Some true)
