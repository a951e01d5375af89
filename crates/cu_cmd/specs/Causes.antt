-- When each status may come.
use Rattle.std.specs.Prelude.{◌≡◌, ℕ, ◌⊎◌}
use Rattle.cu_io.specs.Rose.{Rose}
use Rattle.cu_cmd.specs.declared.status.Status.{Status}
use Rattle.cu_cmd.specs.declared.status.Status.TheVariants as status

-- the counts of faults of the library, the input and the output
pub record Counts : Type 0 where
  pub library : ℕ
  pub input : ℕ
  pub output : ℕ

-- A status has its cause. A fault of reading comes only where the count of the library or the input
-- rose, and one of writing only where that of the output did. A count that has no part in the
-- answer stands as before; where memory ran out, all stand.
abbrev pub HasCause : Status → Counts → Counts → Type 0
HasCause status.ReadFault old new =
    (Rose old.library new.library ⊎ Rose old.input new.input) × (new.output ≡ old.output)
HasCause status.WriteFault old new =
    Rose old.output new.output × (new.library ≡ old.library) × (new.input ≡ old.input)
HasCause answer old new = new ≡ old

-- The status is one that words outside the command grammar may give.
abbrev pub IsUsage : Status → Type 0
IsUsage status.Usage = Unit {0}
IsUsage status.WriteFault = Unit {0}
IsUsage status.NoMemory = Unit {0}
IsUsage answer = ⊥

-- The status is one that words of the command grammar may give: any but Usage.
abbrev pub IsNotUsage : Status → Type 0
IsNotUsage status.Usage = ⊥
IsNotUsage answer = Unit {0}

-- The status is one that a session may end with.
abbrev pub IsOfSession : Status → Type 0
IsOfSession status.Done = Unit {0}
IsOfSession status.ReadFault = Unit {0}
IsOfSession status.WriteFault = Unit {0}
IsOfSession status.NoMemory = Unit {0}
IsOfSession answer = ⊥
