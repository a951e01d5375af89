-- What the answers of `scope` and `scope_goal` stand for, under a table of names.
use Rattle.std.specs.Prelude.{◌≡◌, ℕ, List, [], Option, Some, IfSome, length, slice_get}
use Rattle.std.specs.Option.{option_map}
use Rattle.cu_entities.specs.declared.name_table.NameTable.{NameTable}
use Rattle.cu_entities.specs.NameTables.{Tells}
use Rattle.cu_lex.specs.Reading.{position_of}
use Rattle.cu_names.specs.declared.names.NameId.{NameId}
use Rattle.cu_names.specs.declared.place.Place.{Place}
use Rattle.cu_names.specs.Texts.{IsKnown, text_of}
use Rattle.cu_syntax.specs.Syntax.{Name}
use Rattle.cu_uses.specs.declared.fault.Wrong.{Wrong}
use Rattle.cu_uses.specs.declared.fault.Wrong.TheVariants as wrong
use Rattle.cu_uses.specs.Faults.{Fault}
use Rattle.cu_modules.specs.declared.scope_fault.ScopeFault.{ScopeFault}
use Rattle.cu_modules.specs.declared.scope_fault.ScopeFault.TheVariants as answer
use Rattle.cu_modules.specs.declared.scopes.Scopes.{Scopes}
use Rattle.cu_modules.specs.Exports.{AreInterfaces}
use Rattle.cu_modules.specs.Means.{interfaces_before}
use Rattle.cu_modules.specs.Ordering.{AllNew}
use Rattle.cu_modules.specs.Scopes.{Named, interfaces, scope}

abbrev pub fault_at : List (List ℕ) → Wrong → Place → NameId → Fault
fault_at names wrong place id =
    record { wrong = wrong; at = position_of place; name = text_of names id }

-- The module of the fault that an answer tells, and the fault, have this property. An allocation
-- failure says nothing.
abbrev pub TellsFault : List (List ℕ) → (List ℕ → Fault → Type 0) → ScopeFault → Type 0
TellsFault names P (answer.NotExported place id) =
    P (text_of names place.«module») (fault_at names wrong.NotExported place id)
TellsFault names P (answer.UnknownName place id) =
    P (text_of names place.«module») (fault_at names wrong.UnknownName place id)
TellsFault names P (answer.Ambiguous place id) =
    P (text_of names place.«module») (fault_at names wrong.Ambiguous place id)
TellsFault names P (answer.Duplicate place id) =
    P (text_of names place.«module») (fault_at names wrong.Duplicate place id)
TellsFault names P answer.NoMemory = Unit {0}

-- A table has the names of an answer: that of the fault's module, and that of its token.
abbrev pub FaultIsKnown : List (List ℕ) → ScopeFault → Type 0
FaultIsKnown names (answer.NotExported place id) = IsKnown names place.«module» × IsKnown names id
FaultIsKnown names (answer.UnknownName place id) = IsKnown names place.«module» × IsKnown names id
FaultIsKnown names (answer.Ambiguous place id) = IsKnown names place.«module» × IsKnown names id
FaultIsKnown names (answer.Duplicate place id) = IsKnown names place.«module» × IsKnown names id
FaultIsKnown names answer.NoMemory = Unit {0}

-- A name has this qualifier, if any, and this base, and a table has both.
pub record IsNamed (names : List (List ℕ)) (qualifier : Option NameId) (base : NameId)
    (name : Name) : Type 0 where
  pub qualifier_is : name.qualifier ≡ option_map (text_of names) qualifier
  pub base_is : name.base ≡ text_of names base
  pub qualifier_known : IfSome qualifier (IsKnown names)
  pub base_known : IsKnown names base

-- There is a table for each module, which tells what is in scope there. No two modules have one
-- name, and each has its exports under its name.
pub record AreScopes (names : List (List ℕ)) (modules : List Named) (scopes : Scopes) : Type 0 where
  pub each : length scopes.tables.items ≡ length modules
  pub tells : (k : ℕ) (m : Named) (table : NameTable) → slice_get modules k ≡ Some m
      → slice_get scopes.tables.items k ≡ Some table
      → Tells names (scope (interfaces_before modules k) m) table
  pub differ : AllNew [] modules
  pub exports : AreInterfaces names (interfaces [] modules) scopes.interfaces
