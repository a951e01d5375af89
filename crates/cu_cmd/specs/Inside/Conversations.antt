-- What a session has between two lines, as the table of its replies tells it.
use Rattle.std.specs.declared.alloc.AllocError.{AllocError}
use Rattle.std.specs.Prelude.{
  ◌≡◌,
  ℕ,
  List,
  [],
  ◌++◌,
  Option,
  None,
  Some,
  IfSome,
  Result,
  Ok,
  codes,
  map,
  option_map,
  string_bytes,
}
use Rattle.cu_cmd.specs.declared.conversation.Conversation.{Conversation}
use Rattle.cu_cmd.specs.declared.question.Listed.{Listed}
use Rattle.cu_cmd.specs.declared.question.Pending.{Pending}
use Rattle.cu_cmd.specs.declared.question.Question.{Question}
use Rattle.cu_calculus.specs.FlatProgram.{program_of}
use Rattle.cu_cmd.specs.Replies.{Asking, IsDue, asked_for, fresh}
use Rattle.cu_front.specs.CompileAnswers.{HasGoal}
use Rattle.cu_front.specs.Compiling.{Folder}
use Rattle.cu_front.specs.Loaded.{AreLoaded, IsLoaded}
use Rattle.cu_front.specs.declared.runnable.Compiled.{Compiled}
use Rattle.cu_graph.specs.declared.store.Store.{Ghosts}
use Rattle.cu_io.specs.Holdings.{Holdings}
use Rattle.cu_kernel.specs.Kernel.{Goal, Kernel}
use Rattle.cu_machine.specs.Graph.{Graph}
use Rattle.cu_names.specs.Texts.{text_of}
use Rattle.cu_search.specs.Lines.{Notation}
use Rattle.cu_search.specs.NextLines.{NextLines}
use Rattle.cu_search.specs.Paused.{standing_of_paused}
use Rattle.cu_search.specs.Rounds.{IsWorkerCount}
use Rattle.cu_search.specs.Standing.{IsGoing, Standing}
use Rattle.cu_search.specs.declared.paused.Paused.{Paused}
use Rattle.cu_session.specs.Answers.{BreaksOff, Extends, Gives}
use Rattle.cu_session.specs.declared.asker.Turn.{Turn}
use Rattle.cu_session.specs.declared.asker.Turn.TheVariants.{Go}
use Rattle.cu_values.specs.ProgramLabels.{labels_of}
use Rattle.cu_words.specs.Requests.{Load, Request}
use Rattle.cu_words.specs.Words.{AreInRange}

-- the names of a goal's variables, where there is a goal
abbrev pub variables_of : List (List ℕ) → Option Goal → List (List ℕ)
variables_of names None = []
variables_of names (Some goal) = map (text_of names) goal.names

-- the names that the listing of a program's goal uses, under a table of names
abbrev pub notation_in : List (List ℕ) → Kernel → Notation
notation_in names program = record {
  labels = labels_of names program;
  variables = variables_of names program.goal;
}

-- where the paused search for a compiled goal's values stands
abbrev pub place_of : {S : Type 0} {G : Ghosts S} → (S → Graph) → List (List ℕ) → Compiled
    → Paused S G → Standing
place_of content names compiled paused =
    standing_of_paused content compiled.flat (notation_in names compiled.program) paused

-- where the search of a question stands
abbrev pub standing_in : {S : Type 0} {G : Ghosts S} → (S → Graph) → Question S G → Standing
standing_in content question =
    place_of content question.names question.compiled question.paused

-- The next round of a question may be run.
pub record IsOpen {S : Type 0} {G : Ghosts S} (content : S → Graph) (question : Question S G)
    : Type 0 where
  pub workers : IsWorkerCount question.workers
  pub goal : HasGoal question.names question.compiled.program question.compiled.flat
  pub going : IsGoing (standing_in content question)

-- ---- between two lines

-- What a session keeps, whatever the library holds: what it has is in order, and numbers are in
-- their ranges.
pub record IsReady {S : Type 0} {G : Ghosts S} (content : S → Graph) (c : Conversation S G)
    : Type 0 where
  pub loaded : IfSome c.loaded (λ loaded. IsLoaded loaded.names loaded.modules)
  pub limits : AreInRange c.limits
  pub workers : IsWorkerCount c.workers
  pub question : IfSome c.question (IsOpen content)

-- The module that is loaded is the one of this folder.
abbrev pub IsHeld : {S : Type 0} {G : Ghosts S} → Folder → Conversation S G → Type 0
IsHeld folder c = IfSome c.loaded
    (λ loaded. AreLoaded folder (string_bytes loaded.name) loaded.names loaded.modules)

-- what a session has, as the table of its replies tells it
abbrev pub asking_of : {S : Type 0} {G : Ghosts S} → (S → Graph) → Folder → Conversation S G
    → Asking
asking_of content folder c = record {
  folder = folder;
  loaded = option_map (λ loaded. string_bytes loaded.name) c.loaded;
  limits = c.limits;
  question = option_map (standing_in content) c.question;
}

-- No line has been replied to yet.
pub record IsBegun {S : Type 0} {G : Ghosts S} (content : S → Graph) (c : Conversation S G)
    : Type 0 where
  pub ready : IsReady content c
  pub held : (folder : Folder) → IsHeld folder c
  pub begins : (folder : Folder) → asking_of content folder c ≡ fresh folder

-- the folder from which a session loads modules
abbrev pub session_folder : Holdings → Folder
session_folder held = held.module_at (codes ".")

-- ---- replies

-- A text was added to a reply, and the session goes on.
pub record Says (turn : Turn) (text before after : List ℕ) : Type 0 where
  pub added : after ≡ before ++ text
  pub goes : turn ≡ Go

-- The question for a compiled goal was opened in place of any other, and the reply says so.
pub record Opens {S : Type 0} {G : Ghosts S} (content : S → Graph) (names : List (List ℕ))
    (compiled : Compiled) (turn : Turn) (old new : Conversation S G) (before after : List ℕ)
    : Type 0 where
  pub says : Says turn (codes "ok\n") before after
  pub loaded : new.loaded ≡ old.loaded
  pub limits : new.limits ≡ old.limits
  pub workers : new.workers ≡ old.workers
  pub question : Question S G
  pub asks : new.question ≡ Some question
  pub is_open : IsOpen content question
  pub place : (goal : Goal) → compiled.program.goal ≡ Some goal
      → standing_in content question
      ≡ asked_for old.limits names compiled.program (program_of compiled.flat) goal

-- The reply that is due to a request was added, and the session is ready for the next line.
pub record Answers {S : Type 0} {G : Ghosts S} (content : S → Graph) (request : Request)
    (turn : Turn) (old new : Conversation S G) (before after : List ℕ) : Type 0 where
  pub added : Extends before after
  pub ready : IsReady content new
  pub held : (folder : Folder) → IsHeld folder old → IsHeld folder new
  pub gives : (folder : Folder) → IsHeld folder old
      → Gives (IsDue (asking_of content folder old) request) turn before after
      (Some (asking_of content folder new))

-- The module of a name was loaded or refused, as far as the library tells what it holds, and the
-- count of its faults stands. Or the library failed, and nothing was replied.
pub data Loads {S : Type 0} {G : Ghosts S} (content : S → Graph) (holdings : Option Holdings)
    (name : List ℕ) (turn : Turn) (old new : Conversation S G) (before after : List ℕ)
    (old_count new_count : ℕ) : Type 0 where
  answers : Extends before after → IsReady content new
      → IfSome holdings (λ held. IsHeld (session_folder held) old
      → IsHeld (session_folder held) new
      × Gives (IsDue (asking_of content (session_folder held) old) (Load name)) turn before after
      (Some (asking_of content (session_folder held) new)))
      → new_count ≡ old_count
      → Loads content holdings name turn old new before after old_count new_count
  fails : BreaksOff turn before after old_count new_count → new ≡ old
      → Loads content holdings name turn old new before after old_count new_count

-- ---- questions

-- The next lines of a question were added to a reply, and the search, unless the listing ended,
-- stands after them.
pub record ListsOn {S : Type 0} {G : Ghosts S} (content : S → Graph) (names : List (List ℕ))
    (compiled : Compiled) (paused : Paused S G) (before after : List ℕ)
    (left : Option (Paused S G)) : Type 0 where
  pub bytes : List ℕ
  pub lists : NextLines (place_of content names compiled paused) bytes
      (option_map (place_of content names compiled) left)
  pub added : after ≡ before ++ bytes
  pub going : IfSome left (λ later. IsGoing (place_of content names compiled later))

-- The next lines of a question were added to a reply, and the question, unless its listing ended,
-- stands after them.
pub record GoesOn {S : Type 0} {G : Ghosts S} (content : S → Graph) (pending : Pending S G)
    (listed : Listed S G) : Type 0 where
  pub bytes : List ℕ
  pub lists : NextLines (standing_in content pending.question) bytes
      (option_map (standing_in content) listed.question)
  pub added : listed.reply.items ≡ pending.reply.items ++ bytes
  pub is_open : IfSome listed.question (IsOpen content)

-- A function may be called with each open question, and then adds its next lines to the reply.
pub record TakesOn {S : Type 0} {G : Ghosts S} (content : S → Graph)
    (Pre : Pending S G → Type 0) (Post : Pending S G → Result (Listed S G) AllocError → Type 0)
    : Type 0 where
  pub callable : (pending : Pending S G) → IsOpen content pending.question → Pre pending
  pub lists : (pending : Pending S G) (listed : Listed S G) → IsOpen content pending.question
      → Post pending (Ok listed) → GoesOn content pending listed
