-- The report of a run, from the words to the bytes: what it writes and the status that it ends
-- with, by its words, by what the library holds and by the input.
use Rattle.std.specs.Prelude.{
  ◌≡◌,
  ℕ,
  zero,
  suc,
  List,
  [],
  ◌∷◌,
  Some,
  codes,
  slice_get,
}
use Rattle.cu_calculus.specs.Program as calculus
use Rattle.cu_flattext.specs.Text.{text_of_module}
use Rattle.cu_front.specs.Compiling.{Compiles, RootCompiles, ModulesRefused, RequestRefused}
use Rattle.cu_front.specs.Refusal.{Refusal}
use Rattle.cu_front.specs.RefusalLine.{refusal_line}
use Rattle.cu_io.specs.Holdings.{Holdings}
use Rattle.cu_kernel.specs.Kernel.{Goal, Kernel}
use Rattle.cu_kernel.specs.TypeExpr.{TypeExpr}
use Rattle.cu_machine.specs.Listing.{Listing}
use Rattle.cu_machine.specs.declared.End.{End}
use Rattle.cu_machine.specs.declared.End.TheVariants as ends
use Rattle.cu_names.specs.declared.names.NameId.{NameId}
use Rattle.cu_search.specs.Totals.{totals_of}
use Rattle.cu_theorem.specs.Listed.{listing_of}
use Rattle.cu_words.specs.Words.{
  Checking,
  Command,
  Compile,
  Compiling,
  IsCommand,
  ReadsAs,
  Serving,
  Solve,
  Solving,
  Trial,
  Trying,
}
use Rattle.cu_cmd.specs.Checking.{CheckReport}
use Rattle.cu_cmd.specs.Listings.{listing_pieces}
use Rattle.cu_cmd.specs.Sessions.{SessionReport}
use Rattle.cu_cmd.specs.Trials.{totals_pieces, trial_goal, trial_held, trial_limits}
use Rattle.cu_cmd.specs.declared.status.Status.{Status}
use Rattle.cu_cmd.specs.declared.status.Status.TheVariants as status

-- ---- refusals

-- the line for words outside the command grammar
abbrev pub usage_line : List ℕ
usage_line = codes "bad command line\n"

-- ---- statuses

-- the status of a run whose listing has this end
abbrev pub status_of : End → Status
status_of (ends.NoMore zero) = status.Done
status_of (ends.NoMore (suc waits)) = status.Floundered
status_of (ends.Rounds d count) = status.Limit
status_of (ends.Answers count) = status.Limit
status_of (ends.Stopped stop d) = status.Stopped

-- ---- reports, command by command

-- What a `solve` writes, in pieces, and the status that it ends with: the line of a refusal, or the
-- goal's listing.
pub data SolveReport (held : Holdings) (solve : Solve) : List (List ℕ) → Status → Type 0 where
  -- The module or the goal is refused.
  refused : (refusal : Refusal)
      → RequestRefused (held.module_at solve.folder) solve.name solve.goal refusal
      → SolveReport held solve (refusal_line refusal ∷ []) status.Refused
  -- The goal's listing is written.
  listed : (names : List (List ℕ)) (program : Kernel) (flat : calculus.Program) (goal : Goal)
      (found : Listing) (written : List (List ℕ)) (answer : Status)
      → Compiles (held.module_at solve.folder) solve.name solve.goal names program flat
      → program.goal ≡ Some goal → found ≡ listing_of solve.limits flat goal
      → written ≡ listing_pieces names program goal found → answer ≡ status_of found.end
      → SolveReport held solve written answer

-- What a `compile` writes, in pieces, and the status that it ends with: the line of a refusal, or
-- the module's text in FlatCurry.
pub data CompileReport (held : Holdings) (compile : Compile) : List (List ℕ) → Status → Type 0 where
  -- The module is refused.
  module_refused : (refusal : Refusal)
      → ModulesRefused (held.module_at compile.folder) compile.name refusal
      → CompileReport held compile (refusal_line refusal ∷ []) status.Refused
  -- The text of the module is written.
  printed : (names : List (List ℕ)) (program : Kernel) (interface : List TypeExpr)
      (flat : calculus.Program) (id : NameId) (text : List ℕ)
      → RootCompiles (held.module_at compile.folder) compile.name names program interface flat
      → slice_get names id.0 ≡ Some compile.name
      → text ≡ text_of_module
      (record { names = names; kernel = program; interface = interface; flat = flat }) id
      → CompileReport held compile (text ∷ []) status.Done

-- What a trial writes, in pieces, and the status that it ends with. It doesn't depend on what the
-- library holds.
pub data TrialReport (trial : Trial) : List (List ℕ) → Status → Type 0 where
  -- The module or the goal of the trial is refused.
  trial_refused : (refusal : Refusal)
      → RequestRefused trial_held (codes "Trial") (trial_goal trial.depth) refusal
      → TrialReport trial (refusal_line refusal ∷ []) status.Refused
  -- What the lines of the goal's listing come to is written.
  tried : (names : List (List ℕ)) (program : Kernel) (flat : calculus.Program) (goal : Goal)
      (found : Listing) (written : List (List ℕ)) (answer : Status)
      → Compiles trial_held (codes "Trial") (trial_goal trial.depth) names program flat
      → program.goal ≡ Some goal → found ≡ listing_of (trial_limits trial) flat goal
      → written ≡ totals_pieces (totals_of found) found.end → answer ≡ status_of found.end
      → TrialReport trial written answer

-- What a command writes, in pieces, and the status that it ends with, by what the library holds and
-- by the input. A session alone reads the input.
abbrev pub CommandReport : Holdings → List ℕ → Command → List (List ℕ) → Status → Type 0
CommandReport held input (Solving solve) = SolveReport held solve
CommandReport held input (Compiling compile) = CompileReport held compile
CommandReport held input (Checking check) = CheckReport held check
CommandReport held input Serving = SessionReport (held.module_at (codes ".")) input
CommandReport held input (Trying trial) = TrialReport trial

-- The command asks nothing of the library.
abbrev pub AsksNothing : Command → Type 0
AsksNothing (Solving solve) = ⊥
AsksNothing (Compiling compile) = ⊥
AsksNothing (Checking check) = ⊥
AsksNothing Serving = ⊥
AsksNothing (Trying trial) = Unit {0}

-- ---- the report

-- What a run writes, in pieces, and the status that it ends with, by its words, by what the library
-- holds and by the input.
pub data Report (words : List (List ℕ)) (held : Holdings) (input : List ℕ)
    : List (List ℕ) → Status → Type 0 where
  -- The words are outside the command grammar.
  usage : (IsCommand words → ⊥) → Report words held input (usage_line ∷ []) status.Usage
  -- The words are in the command grammar, and the command that they ask for is run.
  command : (asked : Command) (written : List (List ℕ)) (answer : Status) → ReadsAs words asked
      → CommandReport held input asked written answer → Report words held input written answer
