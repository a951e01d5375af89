-- What private contracts of scopes say.
use Rattle.std.specs.Prelude.{Option, None, Some}
use Rattle.cu_entities.specs.declared.entities.Entity.{Entity}
use Rattle.cu_entities.specs.declared.name_table.Meant.{Meant}
use Rattle.cu_entities.specs.declared.name_table.Meant.TheVariants as meant
use Rattle.cu_names.specs.declared.names.NameId.{NameId}
use Rattle.cu_names.specs.declared.place.Place.{Place}
use Rattle.cu_uses.specs.declared.fault.Fault.{Fault}
use Rattle.cu_uses.specs.declared.fault.Wrong.{Wrong}
use Rattle.cu_uses.specs.declared.fault.Wrong.TheVariants as wrong
use Rattle.cu_modules.specs.declared.scope_fault.ScopeFault.{ScopeFault}
use Rattle.cu_modules.specs.declared.scope_fault.ScopeFault.TheVariants as answer

abbrev pub answer_for : Wrong → Place → NameId → ScopeFault
answer_for wrong.NotExported place id = answer.NotExported place id
answer_for wrong.UnknownName place id = answer.UnknownName place id
answer_for wrong.Ambiguous place id = answer.Ambiguous place id
answer_for wrong.Duplicate place id = answer.Duplicate place id

-- the code's answer for a fault
abbrev pub wrong_at : Fault → ScopeFault
wrong_at f = answer_for f.wrong f.place f.name

-- the entity that a name means, where it means one alone
abbrev pub only_one : Option Meant → Option Entity
only_one (Some (meant.One e)) = Some e
only_one _ = None
