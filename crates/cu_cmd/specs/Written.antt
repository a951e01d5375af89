-- What was written of a report.
use Rattle.std.specs.Prelude.{◌≡◌, ℕ, List, Option}
use Rattle.std.specs.List.{concat}
use Rattle.cu_flattext.specs.Naming.{Lowered}
use Rattle.cu_flattext.specs.Text.{text_of_module}
use Rattle.cu_front.specs.Refusal.{Refusal}
use Rattle.cu_front.specs.RefusalLine.{refusal_line}
use Rattle.cu_machine.specs.Listing.{Listing}
use Rattle.cu_names.specs.declared.names.NameId.{NameId}
use Rattle.cu_search.specs.Lines.{Notation, listing_bytes}
use Rattle.cu_search.specs.Written.{Adds, AddsPrefix}
use Rattle.cu_words.specs.Words.{Check, Checking, Command, Compiling, ReadsAs, Serving, Solving, Trying}
use Rattle.cu_cmd.specs.Checking.{IsFileRefusal, IsVerdict}
use Rattle.cu_cmd.specs.Report.{status_of, usage_line}
use Rattle.cu_cmd.specs.Trials.{totals_text}
use Rattle.cu_cmd.specs.declared.status.Status.{Status}
use Rattle.cu_cmd.specs.declared.status.Status.TheVariants as status

-- A prefix of a report was written: nothing, or a prefix of the bytes of all its pieces.
pub data WritesPrefix (Due : List (List ℕ) → Status → Type 0) (before after : Option (List ℕ))
    : Type 0 where
  nothing : after ≡ before → WritesPrefix Due before after
  prefix : (written : List (List ℕ)) (answer : Status) → Due written answer
      → AddsPrefix before after (concat written) → WritesPrefix Due before after

-- The whole report was written, and the run ends with its status.
pub record WritesReport (answer : Status) (Due : List (List ℕ) → Status → Type 0)
    (before after : Option (List ℕ)) : Type 0 where
  pub written : List (List ℕ)
  pub is_report : Due written answer
  pub adds : Adds before after (concat written)

-- What a run that ends with this status wrote: where the outside failed or memory ran out, a prefix
-- of the report; otherwise the report. A sink tells bytes and not pieces, so that each line is one
-- piece is left to tests.
abbrev pub Writes : Status → (List (List ℕ) → Status → Type 0) → Option (List ℕ)
    → Option (List ℕ) → Type 0
Writes status.ReadFault Due before after = WritesPrefix Due before after
Writes status.WriteFault Due before after = WritesPrefix Due before after
Writes status.NoMemory Due before after = WritesPrefix Due before after
Writes answer Due before after = WritesReport answer Due before after

-- ---- whole texts, whatever the library tells

-- A command that ends with this status wrote its whole result: a listing whose end has this status,
-- the text of a module, the line of a verdict on a proof, or, as a trial, what the lines of such a
-- listing come to. Of the replies of a session nothing is said.
abbrev pub WritesResult : Command → Status → Option (List ℕ) → Option (List ℕ) → Type 0
WritesResult (Solving solve) answer before after =
    (notation : Notation) × (found : Listing) × (answer ≡ status_of found.end)
    × Adds before after (listing_bytes notation found)
WritesResult (Compiling compile) answer before after =
    (program : Lowered) × (id : NameId) × (answer ≡ status.Done)
    × Adds before after (text_of_module program id)
WritesResult (Checking check) answer before after =
    (line : List ℕ) × (answer ≡ status.Done) × IsVerdict line × Adds before after line
WritesResult Serving answer before after = answer ≡ status.Done
WritesResult (Trying trial) answer before after =
    (found : Listing) × (answer ≡ status_of found.end) × Adds before after (totals_text found)

-- The line is that of a refusal: of what a command compiles, or, where it checks, of its file.
pub data IsRefusalOf (asked : Command) (line : List ℕ) : Type 0 where
  of_compiling : (refusal : Refusal) → line ≡ refusal_line refusal → IsRefusalOf asked line
  of_file : (check : Check) → asked ≡ Checking check → IsFileRefusal check.path line
      → IsRefusalOf asked line

-- A command that ends with this status wrote the line of a refusal, where the status is Refused,
-- and else its whole result.
abbrev pub WritesWholly : Command → Status → Option (List ℕ) → Option (List ℕ) → Type 0
WritesWholly asked status.Refused before after =
    (line : List ℕ) × IsRefusalOf asked line × Adds before after line
WritesWholly asked answer before after = WritesResult asked answer before after

-- A run that ends with this status wrote the line for a wrong command line, or the whole of what
-- the command that its words ask for comes to. This is said also where nothing is known of what the
-- library holds. After a fault of reading nothing was written, unless the words ask for a session;
-- of a fault of writing and of an allocation failure nothing is said.
abbrev pub WritesWhole : List (List ℕ) → Status → Option (List ℕ) → Option (List ℕ) → Type 0
WritesWhole words status.Usage before after = Adds before after usage_line
WritesWhole words status.ReadFault before after = (ReadsAs words Serving → ⊥) → after ≡ before
WritesWhole words status.WriteFault before after = Unit {0}
WritesWhole words status.NoMemory before after = Unit {0}
WritesWhole words answer before after =
    (asked : Command) × ReadsAs words asked × WritesWholly asked answer before after
