-- The modules that a root reaches by its imports: depth first in the order of the texts, each once,
-- imports before importers.
use Rattle.std.specs.Prelude.{◌≡◌, ℕ, Bool, true, false, ◌+◌, ◌⊎◌, not, List, [], ◌∷◌, ◌++◌, Option, None, Some, Result, Ok, Err, is_some, length, map, if◌then◌else◌}
use Rattle.std.specs.List.{filter, list_any}
use Rattle.std.specs.Str.{bytes_eq}
use Rattle.cu_prelude.specs.BuiltIn.{built_in}
use Rattle.cu_syntax.specs.Syntax.{Import, Module}
use Rattle.cu_uses.specs.Binders.{is_among}
use Rattle.cu_modules.specs.Scopes.{Named, imports_of}
use Rattle.cu_modules.specs.Texts.{IsRead, TextFault}

-- Why a walk over modules ends early.
pub data Refusal : Type 0 where
  -- a fault in the text of the module of this name
  InText : List ℕ → TextFault → Refusal
  MissingModule : List ℕ → Refusal
  -- the names of a cycle of imports, from the module that was met again
  ImportCycle : List (List ℕ) → Refusal
  -- the module that would be one too many
  TooManyModules : List ℕ → Refusal

-- the most modules that are fetched
abbrev pub most_modules : ℕ
most_modules = 1000

abbrev pub is_built_in : List ℕ → Bool
is_built_in name = is_some (built_in name)

-- the text of a module of a name: its own, where it is built in, or what is held under it
abbrev pub source : (List ℕ → Option (List ℕ)) → List ℕ → Option (List ℕ)
source held name = if is_built_in name then built_in name else held name

abbrev pub has_name : List ℕ → Named → Bool
has_name name m = bytes_eq m.name name

abbrev pub is_there : List Named → List ℕ → Bool
is_there modules name = list_any (has_name name) modules

abbrev pub fetched_names : List (List ℕ) → List (List ℕ)
fetched_names names = filter (λ name. not (is_built_in name)) names

-- how many modules were fetched, where these are done and those of the path aren't
abbrev pub fetched : List (List ℕ) → List Named → ℕ
fetched path modules =
    length (fetched_names path) + length (fetched_names (map (λ (m : Named). m.name) modules))

-- the names of a path, from this name on
abbrev pub from : List ℕ → List (List ℕ) → List (List ℕ)
from name [] = []
from name (p ∷ path) = if bytes_eq p name then p ∷ path else from name path

-- A module is neither done nor on the path from the root.
pub record IsNew (path : List (List ℕ)) (before : List Named) (name : List ℕ) : Type 0 where
  pub not_done : is_there before name ≡ false
  pub not_met : is_among path name ≡ false

-- A module is new, and its text may be looked at: it is built in, or not as many as `most_modules`
-- were fetched.
pub record IsOpen (path : List (List ℕ)) (before : List Named) (name : List ℕ) : Type 0 where
  pub new : IsNew path before name
  pub few : is_built_in name ≡ true ⊎ ¬ (fetched path before ≡ most_modules)

abbrev pub import_names : Named → List (List ℕ)
import_names m = map (λ (i : Import). i.name.text) (imports_of m)

mutual
  -- the modules that are done after a visit of one module, where `path` leads to it and `before`
  -- were done before
  pub data Visits (held : List ℕ → Option (List ℕ)) : List (List ℕ) → List Named → List ℕ
      → Result (List Named) Refusal → Type 0 where
    done : (path : List (List ℕ)) (before : List Named) (name : List ℕ)
        → is_there before name ≡ true → Visits held path before name (Ok before)
    cyclic : (path : List (List ℕ)) (before : List Named) (name : List ℕ)
        → is_there before name ≡ false → is_among path name ≡ true
        → Visits held path before name (Err (ImportCycle (from name path)))
    too_many : (path : List (List ℕ)) (before : List Named) (name : List ℕ) → IsNew path before name
        → is_built_in name ≡ false
        → fetched path before ≡ most_modules
        → Visits held path before name (Err (TooManyModules name))
    missing : (path : List (List ℕ)) (before : List Named) (name : List ℕ) → IsOpen path before name
        → source held name ≡ None
        → Visits held path before name (Err (MissingModule name))
    unread : (path : List (List ℕ)) (before : List Named) (name text : List ℕ) (fault : TextFault)
        → IsOpen path before name
        → source held name ≡ Some text → IsRead name text (Err fault)
        → Visits held path before name (Err (InText name fault))
    refused : (path : List (List ℕ)) (before : List Named) (name text : List ℕ) (syntax : Module)
        (refusal : Refusal) → IsOpen path before name
        → source held name ≡ Some text → IsRead name text (Ok syntax)
        → VisitAll held (path ++ name ∷ []) before
        (import_names (record { name = name; syntax = syntax })) (Err refusal)
        → Visits held path before name (Err refusal)
    visited : (path : List (List ℕ)) (before after : List Named) (name text : List ℕ)
        (syntax : Module) → IsOpen path before name
        → source held name ≡ Some text → IsRead name text (Ok syntax)
        → VisitAll held (path ++ name ∷ []) before
        (import_names (record { name = name; syntax = syntax })) (Ok after)
        → Visits held path before name (Ok (after ++ record { name = name; syntax = syntax } ∷ []))

  -- the modules that are done after visits of the modules of a list, one after another; the first
  -- refusal ends them
  pub data VisitAll (held : List ℕ → Option (List ℕ)) : List (List ℕ) → List Named → List (List ℕ)
      → Result (List Named) Refusal → Type 0 where
    no_more : (path : List (List ℕ)) (before : List Named)
        → VisitAll held path before [] (Ok before)
    stopped : (path : List (List ℕ)) (before : List Named) (name : List ℕ) (names : List (List ℕ))
        (refusal : Refusal)
        → Visits held path before name (Err refusal)
        → VisitAll held path before (name ∷ names) (Err refusal)
    next : (path : List (List ℕ)) (before after : List Named) (name : List ℕ)
        (names : List (List ℕ)) (outcome : Result (List Named) Refusal)
        → Visits held path before name (Ok after) → VisitAll held path after names outcome
        → VisitAll held path before (name ∷ names) outcome

-- the modules of a list, those that are built in first
abbrev pub built_in_first : List Named → List Named
built_in_first modules =
    filter (λ (m : Named). is_built_in m.name) modules
    ++ filter (λ (m : Named). not (is_built_in m.name)) modules

-- the modules that a root reaches, or the refusal, where `held` has the texts by the names of
-- modules
pub data Walk (held : List ℕ → Option (List ℕ)) (root : List ℕ) : Result (List Named) Refusal
    → Type 0 where
  refused : (refusal : Refusal) → Visits held [] [] root (Err refusal)
      → Walk held root (Err refusal)
  walked : (modules : List Named) → Visits held [] [] root (Ok modules)
      → Walk held root (Ok (built_in_first modules))
