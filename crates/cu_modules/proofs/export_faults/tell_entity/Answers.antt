use Rattle.cu_modules.specs.Scopes.{scope}
use Rattle.cu_modules.proofs.ExportFaultLemmas.{of_type, of_value}
use Rattle.cu_modules.proofs.export_faults.tell_entity.Goals as goal

pub returns-in-Variable : goal.returns-in-Variable
returns-in-Variable c = λ owner names before m differ own is.
    of_value owner names before m c.args.entity.now c.in-Variable.field-0 c.in-Variable.name c.tell_value.result c.args.first.now c.tell_value.new.first c.in-Variable.is own
    (λ owned. c.tell_value.ensures owner names (scope before m) differ owned is)

pub returns-in-Type : goal.returns-in-Type
returns-in-Type c = λ owner names before m differ own is.
    of_type owner names before m c.args.entity.now c.in-Type.field-0 c.in-Type.name c.in-Type.constructors c.tell_type.result c.args.first.now c.tell_type.new.first c.in-Type.is own
    (λ owned which. c.tell_type.ensures owner names (scope before m) differ owned which is)
