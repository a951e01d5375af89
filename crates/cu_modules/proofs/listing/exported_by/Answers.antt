use Rattle.cu_lex.specs.Reading.{position_of}
use Rattle.cu_modules.specs.Ordering.{module_of}
use Rattle.cu_modules.proofs.ExportLemmas.{entry_of_entity, entry_of_module}
use Rattle.cu_modules.proofs.listing.exported_by.Goals as goal

pub returns-in-Module : goal.returns-in-Module
returns-in-Module c = λ names before differ has are scoped own.
    let m = c.args.module.now in
    entry_of_module m.name names before (module_of names m) c.args.export.now c.in-Module.field-0 c.in-Module.name c.module_export.result c.in-Module.is own
    (λ owned. c.module_export.ensures names before (position_of c.in-Module.field-0) differ has are scoped owned)

pub returns-in-Entity : goal.returns-in-Entity
returns-in-Entity c = λ names before differ has are scoped own.
    let m = c.args.module.now in
    entry_of_entity m.name names before (module_of names m) c.args.export.now c.in-Entity.entity c.entity_export.result c.in-Entity.is own
    (λ owned. c.entity_export.ensures m.name names before (module_of names m) differ scoped.bindings owned)
