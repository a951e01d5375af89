use Rattle.std.proofs.Common.{◌≡◌, ℕ, ◌≤◌, [], ◌∷◌, length}
use Rattle.cu_flatread.specs.Inside.Numbers.{number_at}
use Rattle.cu_flatread.specs.Inside.Words.{joined, more_elements}
use Rattle.cu_flatread.proofs.cursor.Cursor.numbers_after.Given as goal

abbrev pub invariant-loop-numbers : goal.invariant-loop-numbers
invariant-loop-numbers l = (room : ℕ) × (length l.self.rest.now ≤ room) × (joined l.numbers.items (more_elements number_at room l.self.rest.now) ≡ joined (l.fn.first ∷ []) (more_elements number_at (length l.fn.self.rest.now) l.fn.self.rest.now)) × (length l.self.rest.now ≤ length l.fn.self.rest.now)

abbrev pub decreases-loop-numbers : goal.decreases-loop-numbers
decreases-loop-numbers l = length l.self.rest.now
