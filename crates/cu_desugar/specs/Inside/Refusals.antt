-- The fault for which a text is refused.
use Rattle.std.specs.Prelude.{◌≡◌, IfSome, List, None, Option, Some}
use Rattle.std.specs.Option.{option_map}
use Rattle.cu_faults.specs.Telling.{FaultIsOf}
use Rattle.cu_names.specs.declared.names.NameId.{NameId}
use Rattle.cu_translation.specs.declared.fault.Fault as code
use Rattle.cu_translation.specs.Answer.{fault_meaning}
use Rattle.cu_translation.specs.FaultOrder.{Fault, first_fault}

-- the first clash, or else the first of the other faults
abbrev pub or_other : Option Fault → Option Fault → Option Fault
or_other (Some clash) other = Some clash
or_other None other = other

-- The fault that was found is the first of these clashes, or, without clashes, the first of the
-- other faults.
pub record IsRefusal (owner : NameId) (clashes others : List Fault) (found : Option code.Fault)
    : Type 0 where
  pub meaning : option_map fault_meaning found ≡ or_other (first_fault clashes) (first_fault others)
  pub owned : IfSome found (FaultIsOf owner)
