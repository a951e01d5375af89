-- The first of the faults that were told.
use Rattle.std.specs.Prelude.{◌≡◌, IfSome, List, ◌++◌, Option}
use Rattle.std.specs.Option.{option_map}
use Rattle.cu_names.specs.declared.names.NameId.{NameId}
use Rattle.cu_syntax.specs.Owners.{PlaceIsOf}
use Rattle.cu_translation.specs.declared.fault.Fault as code
use Rattle.cu_translation.specs.Answer.{fault_meaning}
use Rattle.cu_translation.specs.FaultOrder.{Fault, first_fault}
use Rattle.cu_translation.specs.Around.{Around}
use Rattle.cu_translation.specs.Meaning.{Setting}
use Rattle.cu_locals.specs.Text.{Text}
use Rattle.cu_faults.specs.declared.first.First.{First}

abbrev pub FaultIsOf : NameId → code.Fault → Type 0
FaultIsOf owner f = PlaceIsOf owner f.place

-- The fault that was found is the first of these faults of a text of a module, if there are any.
pub record IsFirst (owner : NameId) (faults : List Fault) (found : Option code.Fault) : Type 0 where
  pub meaning : option_map fault_meaning found ≡ first_fault faults
  pub owned : IfSome found (FaultIsOf owner)

-- The code holds the first of these faults of a text of a module, if there are any.
pub record AreTold (owner : NameId) (faults : List Fault) (s : First) : Type 0 where
  pub first : IsFirst owner faults s.fault

-- These faults were told, after those that were told before.
pub record Told (owner : NameId) (before : First) (faults : List Fault) (after : First) : Type 0
  where
    pub told : (others : List Fault) → AreTold owner others before
        → AreTold owner (others ++ faults) after

-- what is known of the names around a text
abbrev pub setting : Text → Around → Setting
setting t around = record { owner = t.owner; names = t.names; around = around }
