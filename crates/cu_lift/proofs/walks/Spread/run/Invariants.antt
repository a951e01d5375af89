use Rattle.std.proofs.Common.{◌<◌, ◌-◌, ℕ, length}
use Rattle.cu_cycles.specs.Graph.{rows_in}
use Rattle.cu_lift.specs.Inside.Trail.{Grows, IsDone, IsTrail}
use Rattle.cu_lift.proofs.walks.Spread.run.Given as goal

abbrev pub invariant-loop-next : goal.invariant-loop-next
invariant-loop-next l = IsTrail (rows_in l.graph) l.self × Grows l.fn.self l.self × ((i : ℕ) → i < l.next → IsDone (rows_in l.graph) l.self i)

abbrev pub decreases-loop-next : goal.decreases-loop-next
decreases-loop-next l = length (rows_in l.graph) - l.next
