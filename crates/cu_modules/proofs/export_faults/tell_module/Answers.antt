use Rattle.std.proofs.Common.{◌∙◌, false, true}
use Rattle.cu_modules.specs.Ordering.{module_of}
use Rattle.cu_modules.specs.Scopes.{imports_of}
use Rattle.cu_modules.proofs.ExportFaultLemmas.{module_told, open_by}
use Rattle.cu_modules.proofs.ToldLemmas.{told_none}
use Rattle.cu_modules.proofs.export_faults.tell_module.Goals as goal

pub returns-then-is_open : goal.returns-then-is_open
returns-then-is_open c = λ names before at differ has scoped own.
    let m = c.args.module.now in
    let is = open_by m.name names (imports_of (module_of names m)) c.as_slice.result.now c.args.scoped.now.imports.items c.args.name.now.text c.is_open.result c.is_open.ensures differ own.text has.known
    c.as_slice.ensures.value scoped.imports in
    module_told m.name names before (module_of names m) at c.args.name.now true c.args.first.now c.args.first.now (is ∙ c.if-is_open.true) (told_none m.name names c.args.first.now)

pub returns : goal.returns
returns c = λ names before at differ has scoped own.
    let m = c.args.module.now in
    let is = open_by m.name names (imports_of (module_of names m)) c.as_slice.result.now c.args.scoped.now.imports.items c.args.name.now.text c.is_open.result c.is_open.ensures differ own.text has.known
    c.as_slice.ensures.value scoped.imports in
    module_told m.name names before (module_of names m) at c.args.name.now false c.args.first.now c.tell.new.self (is ∙ c.if-is_open.false)
    (record { told = λ before is. c.tell.ensures m.name names before (record { place = own.place; name = own.text }) is })
