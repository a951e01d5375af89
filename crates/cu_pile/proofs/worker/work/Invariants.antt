use Rattle.std.proofs.Common.{◌≡◌, ℕ, ◌-◌, List, [], ◌∷◌, ◌++◌, length}
use Rattle.std.specs.Prelude.{All, slice_get}
use Rattle.cu_pile.specs.Seats.{number_past, view_of}
use Rattle.cu_pile.specs.Inside.Steps.{AreOutcomes, slot_of}
use Rattle.cu_pile.proofs.worker.work.Given as goal

abbrev pub invariant-loop-number : goal.invariant-loop-number
invariant-loop-number g l =
    let items = (view_of l.fn.worker.seat).items in
    (below : List ℕ)
    × (l.worker.seat.table_id ≡ l.fn.worker.seat.table_id)
    × (view_of l.worker.seat ≡ record (view_of l.fn.worker.seat) { drawn = below ++ l.number ∷ [] })
    × (l.worker.seat.me.1 ≡ slot_of l.number (slice_get items l.number))
    × (number_past (length items) below ≡ 0)
    × AreOutcomes (g.J.Job.promises l.job) items below l.outcomes
    × All (g.G.Gate.told l.gate) below

abbrev pub decreases-loop-number : goal.decreases-loop-number
decreases-loop-number g l = length (view_of l.fn.worker.seat).items - l.number
