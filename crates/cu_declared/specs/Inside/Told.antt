-- The first of the faults that were told, under a table of names, and where a text stands.
use Rattle.std.specs.Prelude.{◌≡◌, ℕ, false, List, [], ◌++◌, Option, None, Some, slice_get}
use Rattle.cu_entities.specs.Bindings.{Binding}
use Rattle.cu_lex.specs.Reading.{position_of}
use Rattle.cu_names.specs.declared.names.NameId.{NameId}
use Rattle.cu_names.specs.Texts.{AllDiffer, IsKnown, text_of}
use Rattle.cu_syntax.specs.Owners.{PlaceIsOf}
use Rattle.cu_modules.specs.declared.modules.Module.{Module}
use Rattle.cu_modules.specs.declared.scopes.Scopes.{Scopes}
use Rattle.cu_modules.specs.Ordering.{module_of}
use Rattle.cu_modules.specs.Reading.{HasModule}
use Rattle.cu_modules.specs.ScopeAnswers.{AreScopes}
use Rattle.cu_modules.specs.Scopes.{Named}
use Rattle.cu_declared.specs.declared.first_fault.FirstFault.{FirstFault}
use Rattle.cu_declared.specs.declared.found.Fault as code
use Rattle.cu_declared.specs.declared.found.Wrong.{Wrong}
use Rattle.cu_declared.specs.declared.found.Wrong.TheVariants as wrong
use Rattle.cu_declared.specs.TypeFaults as meant
use Rattle.cu_declared.specs.TypeFaults.{Fault, IsModuleFault, is_before, scope_at}

abbrev pub wrong_meaning : List (List ℕ) → Wrong → meant.Wrong
wrong_meaning names wrong.TypeArity = meant.TypeArity
wrong_meaning names (wrong.SynonymCycle id) = meant.SynonymCycle (text_of names id)

abbrev pub fault_meaning : List (List ℕ) → code.Fault → Fault
fault_meaning names f = record { wrong = wrong_meaning names f.wrong; at = position_of f.place }

abbrev pub rank_of : Wrong → ℕ
rank_of wrong.TypeArity = 0
rank_of (wrong.SynonymCycle id) = 1

abbrev pub WrongIsKnown : List (List ℕ) → Wrong → Type 0
WrongIsKnown names wrong.TypeArity = Unit {0}
WrongIsKnown names (wrong.SynonymCycle id) = IsKnown names id

-- The fault is in a module, and a table has its name.
pub record FaultIsOf (owner : NameId) (names : List (List ℕ)) (f : code.Fault) : Type 0 where
  pub place : PlaceIsOf owner f.place
  pub name : WrongIsKnown names f.wrong

-- One of the faults that has none before it.
pub record IsFirst (found : List Fault) (fault : Fault) : Type 0 where
  pub place : ℕ
  pub listed : slice_get found place ≡ Some fault
  pub first : (k : ℕ) (g : Fault) → slice_get found k ≡ Some g → is_before g fault ≡ false

-- The code found no fault where there is none, or else the first of these, which is of the module.
abbrev pub IsFirstIf : NameId → List (List ℕ) → List Fault → Option code.Fault → Type 0
IsFirstIf owner names faults None = faults ≡ []
IsFirstIf owner names faults (Some f) =
    FaultIsOf owner names f × IsFirst faults (fault_meaning names f)

-- What the code holds is the first of these faults of a module, if there are any.
pub record AreTold (owner : NameId) (names : List (List ℕ)) (faults : List Fault) (s : FirstFault)
    : Type 0 where
  pub first : IsFirstIf owner names faults s.first

-- ---- where a text stands

-- the module whose places a text has, a table of names, modules, and one of them with its number
pub record World : Type 0 where
  pub owner : NameId
  pub names : List (List ℕ)
  pub modules : List Named
  pub number : ℕ
  pub m : Named

abbrev pub bindings_of : World → List Binding
bindings_of w = scope_at w.modules w.number w.m

-- the scopes of the code tell what names mean in the modules, and the text is in the module of this
-- number
pub record IsAt (w : World) (number : ℕ) (tables : Scopes) : Type 0 where
  pub differ : AllDiffer w.names
  pub scopes : AreScopes w.names w.modules tables
  pub number_is : number ≡ w.number
  pub is_there : slice_get w.modules w.number ≡ Some w.m

-- the text is that of the module of this number
pub record IsModule (w : World) (number : ℕ) (m : Module) (scopes : Scopes) : Type 0 where
  pub is_at : IsAt w number scopes
  pub owner_is : m.name ≡ w.owner
  pub module_is : module_of w.names m ≡ w.m
  pub has : HasModule w.names m

-- these faults were told, after what was told before
pub record Told (w : World) (before : FirstFault) (faults : List Fault) (after : FirstFault)
    : Type 0 where
  pub told : (others : List Fault) → AreTold w.owner w.names others before
      → AreTold w.owner w.names (others ++ faults) after

-- The code found no fault where a module has none, or else the module's first fault.
abbrev pub IsModuleFirst : World → Option code.Fault → Type 0
IsModuleFirst w None = (f : Fault) → IsModuleFault w.modules w.number w.m f → ⊥
IsModuleFirst w (Some f) =
    FaultIsOf w.owner w.names f × IsModuleFault w.modules w.number w.m (fault_meaning w.names f)
    × ((g : Fault) → IsModuleFault w.modules w.number w.m g
    → is_before g (fault_meaning w.names f) ≡ false)
