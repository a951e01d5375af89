-- What a library answers.
use Rattle.std.specs.Prelude.{◌≡◌, ℕ, List, Option, None, Some, take}
use Rattle.cu_io.specs.declared.library.Fetched.{Fetched}
use Rattle.cu_io.specs.declared.library.Fetched.TheVariants.{Absent, Failed, Text}
use Rattle.cu_io.specs.Rose.{Rose}

-- the most bytes of one text that a library gives
abbrev pub max_fetched_bytes : ℕ
max_fetched_bytes = 16777217

-- The answer of a library that holds this text, or none, in a place: Text has the first
-- `max_fetched_bytes` bytes of it, and Absent says that nothing is there. Failed says nothing of
-- it.
abbrev pub Fetches : Option (List ℕ) → Fetched → Type 0
Fetches (Some text) (Text bytes) = bytes.items ≡ take max_fetched_bytes text
Fetches None (Text bytes) = ⊥
Fetches (Some text) Absent = ⊥
Fetches None Absent = Unit {0}
Fetches held Failed = Unit {0}

-- The library's count of faults rose where the answer is Failed, and is as before otherwise.
abbrev pub FetchCount : Fetched → ℕ → ℕ → Type 0
FetchCount (Text bytes) old new = new ≡ old
FetchCount Absent old new = new ≡ old
FetchCount Failed old new = Rose old new
