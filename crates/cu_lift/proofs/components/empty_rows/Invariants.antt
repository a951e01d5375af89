use Rattle.std.proofs.Common.{◌≡◌, ◌≤◌, ◌-◌, ℕ, [], Some, length, slice_get}
use Rattle.std.specs.declared.alloc.Global.{Global}
use Rattle.std.specs.declared.vec.Vec.{Vec}
use Rattle.cu_lift.proofs.components.empty_rows.Given as goal

-- the rows so far are empty
abbrev pub invariant-loop-number : goal.invariant-loop-number
invariant-loop-number g l =
    (length l.rows.items ≡ l.number) × (l.number ≤ l.count)
    × ((r : ℕ) (row : Vec g.row.T.Denot Global) → slice_get l.rows.items r ≡ Some row → row.items ≡ [])

abbrev pub decreases-loop-number : goal.decreases-loop-number
decreases-loop-number g l = l.count - l.number
