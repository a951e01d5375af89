-- How far a walk has come, under a table of names.
use Rattle.std.specs.Prelude.{◌≡◌, ◌≤◌, ℕ, ◌+◌, Bool, true, false, ◌||◌, ◌⊎◌, List, [], ◌∷◌, ◌++◌, Option, None, Some, Ok, length, if◌then◌else◌}
use Rattle.std.specs.List.{All}
use Rattle.cu_names.specs.declared.names.NameId.{NameId}
use Rattle.cu_names.specs.Texts.{AllDiffer, IsKnown, text_of}
use Rattle.cu_syntax.specs.Syntax as syntax
use Rattle.cu_modules.specs.declared.modules.Module.{Module}
use Rattle.cu_modules.specs.declared.visits.Progress.{Progress}
use Rattle.cu_uses.specs.Binders.{is_among}
use Rattle.cu_modules.specs.Imports.{AreImports}
use Rattle.cu_modules.specs.Ordering.{AreOrdered, IsOwn, module_of, modules_of, texts_of}
use Rattle.cu_modules.specs.BuiltInEntities.{prelude_name, set_functions_name}
use Rattle.cu_modules.specs.Reading.{HasModule, HasPrelude, IsFaultOf}
use Rattle.cu_modules.specs.Scopes.{Named}
use Rattle.cu_modules.specs.Texts.{IsRead}
use Rattle.cu_modules.specs.Walk.{ImportCycle, MissingModule, Refusal, TooManyModules, fetched, from, import_names, is_built_in, is_there, most_modules, source}

abbrev pub one_if : Bool → ℕ
one_if b = if b then 1 else 0

-- whether a module is on the path or done
abbrev pub is_met : List (List ℕ) → List Named → List ℕ → Bool
is_met path modules name = is_among path name || is_there modules name

-- how many of the modules that are built in are on the path or done
abbrev pub built_in_met : List (List ℕ) → List Named → ℕ
built_in_met path modules =
    one_if (is_met path modules prelude_name) + one_if (is_met path modules set_functions_name)

-- What holds between visits, where a path leads to the module at hand, these modules are done and
-- so many were fetched.
pub record StandsFor (names : List (List ℕ)) (prelude : NameId) (path : List NameId)
    (done : List Module) (count : ℕ) : Type 0 where
  pub differ : AllDiffer names
  pub has_prelude : HasPrelude names prelude
  pub path_known : All (IsKnown names) path
  pub done_known : All (HasModule names) done
  pub counted : count ≡ fetched (texts_of names path) (modules_of names done)
  pub few : count ≤ most_modules
  pub room : length path + length done
      ≡ count + built_in_met (texts_of names path) (modules_of names done)
  pub apart : All (λ id. is_there (modules_of names done) (text_of names id) ≡ false) path
  pub ordered : AreOrdered (modules_of names done)

abbrev pub Stands : List (List ℕ) → Progress → Type 0
Stands names p = StandsFor names p.prelude p.path.items p.done.items p.fetched

-- A visit that succeeds adds modules to those that are done, and leaves the path as it was.
pub record Came (names : List (List ℕ)) (before after : Progress) : Type 0 where
  pub stands : Stands names after
  pub path : after.path.items ≡ before.path.items
  pub more : List Module
  pub done : after.done.items ≡ before.done.items ++ more

-- A module that is read was put at the end of the path, and its imports are these.
pub record Enters (names : List (List ℕ)) (before after : Progress) (name : NameId) (m : Module)
    (found : List NameId) : Type 0 where
  pub stands : Stands names after
  pub path : after.path.items ≡ before.path.items ++ name ∷ []
  pub done : after.done.items ≡ before.done.items
  pub called : m.name ≡ name
  pub has : HasModule names m
  pub imports : AreImports names (import_names (module_of names m)) found
  pub own : IsOwn (module_of names m)

-- how many modules are fetched, with one more
abbrev pub fetched_with : List ℕ → ℕ → ℕ
fetched_with name count = if is_built_in name then count else count + 1

-- One more module may be fetched, or need not be since it is built in.
abbrev pub IsFree : ℕ → List ℕ → Type 0
IsFree count name = is_built_in name ≡ true ⊎ ¬ (count ≡ most_modules)

-- The text of a module may be looked at, and is read as this module.
pub record IsFound (held : List ℕ → Option (List ℕ)) (count : ℕ) (name : List ℕ)
    (found : syntax.Module) : Type 0 where
  pub free : IsFree count name
  pub text : List ℕ
  pub is : source held name ≡ Some text
  pub read : IsRead name text (Ok found)

-- why a module that may be looked for isn't found
pub data IsLacking (held : List ℕ → Option (List ℕ)) (count : ℕ) (name : List ℕ) : Refusal
    → Type 0 where
  too_many : is_built_in name ≡ false → count ≡ most_modules
      → IsLacking held count name (TooManyModules name)
  missing : IsFree count name → source held name ≡ None
      → IsLacking held count name (MissingModule name)
  unread : (refusal : Refusal) (text : List ℕ) → IsFree count name → source held name ≡ Some text
      → IsFaultOf name text refusal → IsLacking held count name refusal

-- the cycle of imports that a module closes, which is on the path already
pub record IsCycle (path : List (List ℕ)) (name : List ℕ) (refusal : Refusal) : Type 0 where
  pub met : is_among path name ≡ true
  pub refused : refusal ≡ ImportCycle (from name path)
