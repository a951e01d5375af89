-- What a session replies to its lines: the table of its requests, a case for each row.
use Rattle.std.specs.Prelude.{◌≡◌, ℕ, List, ◌++◌, Option, None, Some, codes}
use Rattle.cu_calculus.specs.Program as calculus
use Rattle.cu_flat.specs.Layout.{laid_out}
use Rattle.cu_front.specs.Compiling.{AreCompiled, Compiles, Folder, ModulesRefused, RequestRefused}
use Rattle.cu_front.specs.Refusal.{Refusal}
use Rattle.cu_front.specs.RefusalLine.{refusal_line}
use Rattle.cu_kernel.specs.Kernel.{Goal, Kernel}
use Rattle.cu_machine.specs.declared.SearchLimits.{SearchLimits}
use Rattle.cu_modules.specs.Scopes.{Named}
use Rattle.cu_search.specs.NextLines.{NextLines}
use Rattle.cu_search.specs.Standing.{Standing, opened}
use Rattle.cu_session.specs.Answers.{Answer, Meaning}
use Rattle.cu_session.specs.declared.asker.Turn.TheVariants as turn
use Rattle.cu_words.specs.Requests.{
  Request,
  Ask,
  Limit,
  Load,
  Next,
  Quit,
  Unknown,
  default_limits,
  limits_with,
  request_of,
}
use Rattle.cu_words.specs.declared.setting.Setting.{Setting}
use Rattle.cu_cmd.specs.Listings.{notation_of}

-- What a session has between two lines: the folder from which modules are loaded, the name of the
-- module that is loaded, the limits of later questions, and the open question, by where its search
-- stands.
pub record Asking : Type 0 where
  pub folder : Folder
  pub loaded : Option (List ℕ)
  pub limits : SearchLimits
  pub question : Option Standing

-- a session before its first line
abbrev pub fresh : Folder → Asking
fresh folder = record {
  folder = folder;
  loaded = None;
  limits = default_limits;
  question = None;
}

-- ---- after a line

-- a session in which the module of this name is loaded, and no question is open
abbrev pub with_module : List ℕ → Asking → Asking
with_module name s = record {
  folder = s.folder;
  loaded = Some name;
  limits = s.limits;
  question = None;
}

-- a session with this question, or with none
abbrev pub with_question : Option Standing → Asking → Asking
with_question question s = record {
  folder = s.folder;
  loaded = s.loaded;
  limits = s.limits;
  question = question;
}

-- a session in which later questions have these limits
abbrev pub with_limits : SearchLimits → Asking → Asking
with_limits limits s = record {
  folder = s.folder;
  loaded = s.loaded;
  limits = limits;
  question = s.question;
}

-- the answer that replies this, and after which the session goes on
abbrev pub goes_on : List ℕ → Asking → Answer Asking
goes_on reply after = record { reply = reply; turn = turn.Go; after = after }

-- the answer that replies this and ends the session
abbrev pub quits : List ℕ → Asking → Answer Asking
quits reply after = record { reply = reply; turn = turn.Quit; after = after }

-- ---- questions

-- the search for the values of a goal of a program, before its first round
abbrev pub asked_for : SearchLimits → List (List ℕ) → Kernel → calculus.Program → Goal → Standing
asked_for limits names program flat goal =
    opened (laid_out flat) (notation_of names program goal) limits goal.function

-- ---- the table

-- This answer is due to a request.
pub data IsDue (s : Asking) : Request → Answer Asking → Type 0 where
  -- `load` of a module of which nothing is refused
  loaded : (name : List ℕ) (modules : List Named) → AreCompiled s.folder name modules
      → IsDue s (Load name) (goes_on (codes "ok\n") (with_module name s))
  -- `load` of a module that is refused
  load_refused : (name : List ℕ) (refusal : Refusal) → ModulesRefused s.folder name refusal
      → IsDue s (Load name) (goes_on (refusal_line refusal) s)
  -- `ask` where no module is loaded
  no_module : (text : List ℕ) → s.loaded ≡ None
      → IsDue s (Ask text) (goes_on (codes "no module\n") s)
  -- `ask` of a goal of which nothing is refused
  asked : (name text : List ℕ) (names : List (List ℕ)) (program : Kernel)
      (flat : calculus.Program) (goal : Goal) → s.loaded ≡ Some name
      → Compiles s.folder name text names program flat → program.goal ≡ Some goal
      → IsDue s (Ask text) (goes_on (codes "ok\n")
      (with_question (Some (asked_for s.limits names program flat goal)) s))
  -- `ask` of a goal that is refused
  goal_refused : (name text : List ℕ) (refusal : Refusal) → s.loaded ≡ Some name
      → RequestRefused s.folder name text refusal
      → IsDue s (Ask text) (goes_on (refusal_line refusal) s)
  -- `next` where no question is open
  no_question : s.question ≡ None → IsDue s Next (goes_on (codes "no question\n") s)
  -- `next` of the open question: its next lines and a dot
  listed : (search : Standing) (bytes : List ℕ) (after : Option Standing)
      → s.question ≡ Some search → NextLines search bytes after
      → IsDue s Next (goes_on (bytes ++ codes ".\n") (with_question after s))
  -- `limits`
  limited : (setting : Setting) → IsDue s (Limit setting)
      (goes_on (codes "ok\n") (with_limits (limits_with setting s.limits) s))
  -- `quit`
  left : IsDue s Quit (quits (codes "bye\n") s)
  -- any other line
  unknown : IsDue s Unknown (goes_on (codes "bad command\n") s)

-- This answer is due to a line.
abbrev pub Replies : Meaning Asking
Replies s line = IsDue s (request_of line)
