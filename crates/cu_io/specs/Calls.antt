-- Calls of an object in memory.
use Rattle.std.specs.Prelude.{ℕ, ◌+◌, ◌-◌, ◌^◌, ◌==◌, min, Bool, if◌then◌else◌, List}
use Rattle.std.specs.List.{list_any}
use Rattle.cu_io.specs.declared.calls.Calls.{Calls}

-- a number and one more, at most the last number of 64 bits
abbrev pub one_more : ℕ → ℕ
one_more n = min (n + 1) (2 ^ 64 - 1)

-- the calls of an object that wasn't called yet: the next is number 0, and none has failed
abbrev pub no_calls : Calls
no_calls = record { next = 0; faults = 0 }

-- the calls after one more: the next number is one more, and where the call failed so is the count
-- of faults
abbrev pub counted : Calls → Bool → Calls
counted calls failed = record {
  next = one_more calls.next;
  faults = if failed
      then one_more calls.faults else calls.faults;
}

-- whether the call of a number is one of those that are to fail
abbrev pub is_listed : List ℕ → ℕ → Bool
is_listed failing call = list_any (λ n. n == call) failing
