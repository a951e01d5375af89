-- What a source answers.
use Rattle.std.specs.Prelude.{◌≡◌, ℕ, ◌<◌, ◌≤◌, ◌^◌, ◌↔◌, List, [], ◌++◌, Option, None, Some, length, take, drop}
use Rattle.cu_io.specs.declared.source.Took.{Took}
use Rattle.cu_io.specs.declared.source.Took.TheVariants.{Bytes, Failed}
use Rattle.cu_io.specs.Rose.{Rose}

-- So many bytes left the start of the input for the start of the room. None did exactly where the
-- input has ended.
pub record Takes (n : ℕ) (before after left : List ℕ) : Type 0 where
  pub moved : after ≡ take n left ++ drop n before
  pub within : n ≤ length left
  pub at_end : (n ≡ 0) ↔ (left ≡ [])

-- The answer of a read into a room, by what was left and what is left after it. A read that fails
-- changes nothing.
abbrev pub Reads : Took → List ℕ → List ℕ → Option (List ℕ) → Option (List ℕ) → Type 0
Reads (Bytes n) room filled None rest = (n ≤ length room) × (rest ≡ None)
Reads (Bytes n) room filled (Some left) rest =
    (n ≤ length room) × Takes n room filled left × (rest ≡ Some (drop n left))
Reads Failed room filled left rest = (filled ≡ room) × (rest ≡ left)

-- A read that takes bytes uses one of the reads that may still do so, of which there are at most 2
-- ^ 63.
abbrev pub ReadsLeft : Took → ℕ → ℕ → Type 0
ReadsLeft (Bytes n) old new = (old ≤ 2 ^ 63) × (new ≤ old) × (0 < n → new < old)
ReadsLeft Failed old new = (old ≤ 2 ^ 63) × (new ≤ old)

-- The source's count of faults rose where the answer is Failed, and is as before otherwise.
abbrev pub ReadCount : Took → ℕ → ℕ → Type 0
ReadCount (Bytes n) old new = new ≡ old
ReadCount Failed old new = Rose old new
