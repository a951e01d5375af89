use Rattle.cu_modules.specs.Faults.{export_list_faults}
use Rattle.cu_modules.specs.Ordering.{module_of}
use Rattle.cu_modules.specs.Scopes.{export_list}
use Rattle.cu_modules.proofs.ExportFaultLemmas.{exports_told, no_export_list}
use Rattle.cu_modules.proofs.ExportLemmas.{list_owned}
use Rattle.cu_modules.proofs.ToldLemmas.{told_nothing}
use Rattle.cu_modules.proofs.checking.tell_export_list.Goals as goal

pub returns-in-Some : goal.returns-in-Some
returns-in-Some c = λ names before differ has scoped.
    let owner = c.args.module.now.name in
    let list = c.in-Some.exports in
    exports_told owner names before (module_of names c.args.module.now) c.in_ok-exports.field-0 list c.as_slice.result.now c.tell_exports.result c.args.first.now c.tell_exports.new.first c.in-Some.is c.as_slice.ensures.value
    (c.in_ok-exports.ensures.meaning names)
    (c.tell_exports.ensures names before differ has scoped (list_owned owner names c.in_ok-exports.field-0 list c.as_slice.result.now c.in-Some.is c.as_slice.ensures.value (c.in_ok-exports.ensures.owned names has)))

pub returns-in-None : goal.returns-in-None
returns-in-None c = λ names before differ has scoped.
    let m = module_of names c.args.module.now in
    told_nothing c.args.module.now.name names c.args.first.now (export_list_faults before m (export_list m.syntax.header))
    (no_export_list names before m c.in_ok-exports.field-0 c.in-None.is (c.in_ok-exports.ensures.meaning names))
