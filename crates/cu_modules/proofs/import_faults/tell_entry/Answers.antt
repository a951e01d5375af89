use Rattle.std.proofs.Common.{subst}
use Rattle.cu_syntax.specs.Owners.{EntityIsOf}
use Rattle.cu_modules.proofs.ImportFaultLemmas.{type_told, value_told}
use Rattle.cu_modules.proofs.import_faults.tell_entry.Goals as goal

pub returns-in-Variable : goal.returns-in-Variable
returns-in-Variable c = λ owner names es differ own are.
    value_told owner names es c.args.exports.now c.args.entry.now c.in-Variable.field-0 c.in-Variable.name c.is_exported.result c.args.first.now c.tell_unless.new.first c.in-Variable.is differ own are c.is_exported.ensures
    (λ owned. c.tell_unless.ensures owner names owned)

pub returns-in-Type : goal.returns-in-Type
returns-in-Type c = λ owner names es differ own are.
    let owned = subst (EntityIsOf owner names) c.in-Type.is own in
    type_told owner names es c.args.exports.now c.args.entry.now c.in-Type.field-0 c.in-Type.name c.in-Type.constructors c.tell_type.result c.args.first.now c.tell_type.new.first c.in-Type.is differ own are
    (c.tell_type.ensures owner names es differ owned.1 owned.2 are)
