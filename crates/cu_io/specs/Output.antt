-- A sink in memory.
use Rattle.std.specs.Prelude.{ℕ, ◌-◌, ◌==◌, min, Bool, ◌||◌, if◌then◌else◌, List, ◌++◌, Option, None, Some, length, take, find, is_some, nat_lt}
use Rattle.std.specs.Option.{option_map}
use Rattle.cu_io.specs.declared.calls.Calls.{Calls}
use Rattle.cu_io.specs.Calls.{counted}

-- the bytes that went out, how many more fit, the calls that are to fail with how many bytes each
-- takes, and the calls so far
pub record Output : Type 0 where
  pub written : List ℕ
  pub room : ℕ
  pub failing : List (ℕ × ℕ)
  pub calls : Calls

-- how many bytes the call of a number takes, where it is one of those that are to fail
abbrev pub count_at : List (ℕ × ℕ) → ℕ → Option ℕ
count_at failing call = option_map (λ (f : ℕ × ℕ). f.1) (find (λ (f : ℕ × ℕ). f.0 == call) failing)

-- whether the next call fails: it is to fail, or its piece doesn't fit
abbrev pub put_fails : Output → List ℕ → Bool
put_fails s piece = is_some (count_at s.failing s.calls.next) || nat_lt s.room (length piece)

-- how many bytes of a piece go out into a room: all or none, and where the call is to fail as many
-- as it takes, the piece has and the room holds
abbrev pub gone_of : Option ℕ → List ℕ → ℕ → ℕ
gone_of None piece room = if nat_lt room (length piece) then 0 else length piece
gone_of (Some count) piece room = min count (min (length piece) room)

-- how many bytes of a piece go out in the next call
abbrev pub put_count : Output → List ℕ → ℕ
put_count s piece = gone_of (count_at s.failing s.calls.next) piece s.room

-- the sink after a call
abbrev pub after_put : Output → List ℕ → Output
after_put s piece = record {
  written = s.written ++ take (put_count s piece) piece;
  room = s.room - put_count s piece;
  failing = s.failing;
  calls = counted s.calls (put_fails s piece);
}
