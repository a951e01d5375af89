-- What the first fault that the code holds stands for, and its sets of texts, under a table of
-- names.
use Rattle.std.specs.Prelude.{◌≡◌, ℕ, List, [], Option, None, Some}
use Rattle.indexmap.specs.IndexSet.{contains}
use Rattle.cu_lex.specs.Reading.{position_of}
use Rattle.cu_names.specs.Texts.{IsKnown, text_of}
use Rattle.cu_names.specs.contracts.names.NameIdPartialEq.TheImpl.{eq-value}
use Rattle.cu_names.specs.declared.names.NameId.{NameId}
use Rattle.cu_syntax.specs.Owners.{PlaceIsOf}
use Rattle.cu_uses.specs.declared.fault.Fault as code
use Rattle.cu_uses.specs.declared.first_fault.FirstFault.{FirstFault}
use Rattle.cu_uses.specs.declared.text_set.TextSet.{TextSet}
use Rattle.cu_uses.specs.Binders.{is_among}
use Rattle.cu_uses.specs.Faults.{Fault, IsFirst}

abbrev pub fault_meaning : List (List ℕ) → code.Fault → Fault
fault_meaning names f =
    record { wrong = f.wrong; at = position_of f.place; name = text_of names f.name }

-- The fault is in a module, and a table has its name.
pub record FaultIsOf (owner : NameId) (names : List (List ℕ)) (f : code.Fault) : Type 0 where
  pub place : PlaceIsOf owner f.place
  pub name : IsKnown names f.name

-- The code found no fault where there is none, or else the first of these, which is of the module.
abbrev pub IsFirstIf : NameId → List (List ℕ) → List Fault → Option code.Fault → Type 0
IsFirstIf owner names faults None = faults ≡ []
IsFirstIf owner names faults (Some f) = FaultIsOf owner names f
    × IsFirst faults (fault_meaning names f)

-- What the code holds is the first of these faults of a module, if there are any.
pub record AreTold (owner : NameId) (names : List (List ℕ)) (faults : List Fault)
    (s : FirstFault) : Type 0 where
  pub first : IsFirstIf owner names faults s.first

-- A set of the code has these texts.
pub record HasTexts (names : List (List ℕ)) (texts : List (List ℕ)) (s : TextSet) : Type 0 where
  pub has : (id : NameId) → IsKnown names id → contains eq-value.it s.texts id
      ≡ is_among texts (text_of names id)
