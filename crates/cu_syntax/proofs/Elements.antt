-- An element is no larger than the largest of its list, which is what a recursion from a loop needs.
use Rattle.std.specs.Prelude.{◌<◌, ◌≤◌, ℕ, List, length, slice_index_or}
use denote.Param.Weighed.{at_most, most}

pub largest : {X : Type 0} (size : X → ℕ) (xs : List X) (i : ℕ) (d : X) → i < length xs → size (slice_index_or xs i d) ≤ most size xs
largest size xs i d within = at_most size xs i d within
