use Rattle.std.proofs.Common.{◌≡◌, ◌<◌, ℕ, None, Some, slice_get}
use Rattle.cu_lift.proofs.set_levels.first_recursion.Given as goal

abbrev pub invariant-loop-function : goal.invariant-loop-function
invariant-loop-function l = (f r : ℕ) → f < l.function → slice_get l.ranks f ≡ Some r → slice_get l.calls r ≡ Some None
