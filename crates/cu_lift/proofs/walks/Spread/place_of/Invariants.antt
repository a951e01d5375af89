use Rattle.std.proofs.Common.{◌≡◌, ◌<◌, ℕ, Some, slice_get}
use Rattle.cu_lift.specs.declared.walks.Found.{Found}
use Rattle.cu_lift.proofs.walks.Spread.place_of.Given as goal

-- no place before this one has the function
abbrev pub invariant-loop-i : goal.invariant-loop-i
invariant-loop-i l = (k : ℕ) (f : Found) → k < l.i → slice_get l.self.found.items k ≡ Some f → f.function ≡ l.function → ⊥
