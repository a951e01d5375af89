-- The answers for faults.
use Rattle.cu_declared.specs.declared.fault.TypeNameFault.{TypeNameFault}
use Rattle.cu_declared.specs.declared.fault.TypeNameFault.TheVariants as answer
use Rattle.cu_declared.specs.declared.found.Fault.{Fault}
use Rattle.cu_declared.specs.declared.found.Wrong.{Wrong}
use Rattle.cu_declared.specs.declared.found.Wrong.TheVariants as wrong
use Rattle.cu_names.specs.declared.place.Place.{Place}

abbrev pub answer_at : Place → Wrong → TypeNameFault
answer_at place wrong.TypeArity = answer.TypeArity place
answer_at place (wrong.SynonymCycle name) = answer.SynonymCycle name

abbrev pub answer_of : Fault → TypeNameFault
answer_of fault = answer_at fault.place fault.wrong
