-- How the parts of a run end, and what they wrote.
use Rattle.std.specs.Prelude.{◌≡◌, ℕ, ◌⊎◌, List, Option, Result, Ok, Err}
use Rattle.cu_io.specs.Rose.{Rose}
use Rattle.cu_flattext.specs.declared.fault.PrintFault.{PrintFault}
use Rattle.cu_flattext.specs.declared.fault.PrintFault.TheVariants as print
use Rattle.cu_search.specs.declared.fault.SearchFault.{SearchFault}
use Rattle.cu_search.specs.declared.fault.SearchFault.TheVariants as search
use Rattle.cu_words.specs.Words.{Command, Serving}
use Rattle.cu_cmd.specs.Causes.{Counts}
use Rattle.cu_cmd.specs.Written.{WritesPrefix, WritesReport, WritesWholly}
use Rattle.cu_cmd.specs.declared.fault.RunFault.{RunFault}
use Rattle.cu_cmd.specs.declared.fault.RunFault.TheVariants.{NoMemory, Read, Write}
use Rattle.cu_cmd.specs.declared.status.Status.{Status}
use Rattle.cu_cmd.specs.declared.status.Status.TheVariants as status

-- the fault of a run for one of printing
abbrev pub fault_of_print : PrintFault → RunFault
fault_of_print print.Write = Write
fault_of_print print.NoMemory = NoMemory

-- the fault of a run for one of a search
abbrev pub fault_of_search : SearchFault → RunFault
fault_of_search search.Write = Write
fault_of_search search.NoMemory = NoMemory

-- the status of a run that came to this
abbrev pub status_after : Result Status RunFault → Status
status_after (Ok answer) = answer
status_after (Err Read) = status.ReadFault
status_after (Err Write) = status.WriteFault
status_after (Err NoMemory) = status.NoMemory

-- The report was written, or, where the run broke off, a prefix of it.
abbrev pub Ends : Result Status RunFault → (List (List ℕ) → Status → Type 0) → Option (List ℕ)
    → Option (List ℕ) → Type 0
Ends (Ok answer) Due before after = WritesReport answer Due before after
Ends (Err fault) Due before after = WritesPrefix Due before after

-- The whole result of a command was written, where the run didn't break off, and nothing, where
-- reading failed and the command is no session.
abbrev pub EndsWhole : Result Status RunFault → Command → Option (List ℕ) → Option (List ℕ)
    → Type 0
EndsWhole (Ok answer) asked before after = WritesWholly asked answer before after
EndsWhole (Err Read) Serving before after = Unit {0}
EndsWhole (Err Read) asked before after = after ≡ before
EndsWhole (Err fault) asked before after = Unit {0}

-- The status is that of a command that didn't break off.
abbrev pub IsCompleted : Status → Type 0
IsCompleted status.Done = Unit {0}
IsCompleted status.Floundered = Unit {0}
IsCompleted status.Limit = Unit {0}
IsCompleted status.Refused = Unit {0}
IsCompleted status.Stopped = Unit {0}
IsCompleted answer = ⊥

-- ---- counts of faults

-- The output's count of faults rose where the output failed, and stands otherwise. The library
-- isn't asked, so that reading can't fail.
abbrev pub HasWriteCause : {A : Type 0} → Result A RunFault → ℕ → ℕ → Type 0
HasWriteCause (Ok x) old new = new ≡ old
HasWriteCause (Err Read) old new = ⊥
HasWriteCause (Err Write) old new = Rose old new
HasWriteCause (Err NoMemory) old new = new ≡ old

-- the counts of faults of the library and the output
pub record Faults : Type 0 where
  pub library : ℕ
  pub output : ℕ

-- The count of what failed rose, and the other one stands.
abbrev pub HasRunCause : {A : Type 0} → Result A RunFault → Faults → Faults → Type 0
HasRunCause (Ok x) old new = new ≡ old
HasRunCause (Err Read) old new = Rose old.library new.library × (new.output ≡ old.output)
HasRunCause (Err Write) old new = Rose old.output new.output × (new.library ≡ old.library)
HasRunCause (Err NoMemory) old new = new ≡ old

-- The count of what failed rose, and the others stand.
abbrev pub HasCommandCause : Result Status RunFault → Counts → Counts → Type 0
HasCommandCause (Ok answer) old new = new ≡ old
HasCommandCause (Err Read) old new =
    (Rose old.library new.library ⊎ Rose old.input new.input) × (new.output ≡ old.output)
HasCommandCause (Err Write) old new =
    Rose old.output new.output × (new.library ≡ old.library) × (new.input ≡ old.input)
HasCommandCause (Err NoMemory) old new = new ≡ old
