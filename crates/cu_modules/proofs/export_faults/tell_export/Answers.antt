use Rattle.cu_lex.specs.Reading.{position_of}
use Rattle.cu_modules.specs.Ordering.{module_of}
use Rattle.cu_modules.proofs.ExportFaultLemmas.{of_entity, of_module}
use Rattle.cu_modules.proofs.export_faults.tell_export.Goals as goal

pub returns-in-Module : goal.returns-in-Module
returns-in-Module c = λ names before differ has scoped own.
    let m = c.args.module.now in
    of_module m.name names before (module_of names m) c.args.export.now c.in-Module.field-0 c.in-Module.name c.args.first.now c.tell_module.new.first c.in-Module.is own
    (λ owned. c.tell_module.ensures names before (position_of c.in-Module.field-0) differ has scoped owned)

pub returns-in-Entity : goal.returns-in-Entity
returns-in-Entity c = λ names before differ has scoped own.
    let m = c.args.module.now in
    of_entity m.name names before (module_of names m) c.args.export.now c.in-Entity.entity c.tell_entity.result c.args.first.now c.tell_entity.new.first c.in-Entity.is own
    (λ owned. c.tell_entity.ensures m.name names before (module_of names m) differ owned scoped.bindings)
