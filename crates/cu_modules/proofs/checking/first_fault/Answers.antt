use Rattle.std.proofs.Common.{◌++◌, []}
use Rattle.std.specs.List.{flat_map}
use Rattle.cu_modules.specs.Faults.{export_list_faults, faults, import_faults, own_values}
use Rattle.cu_modules.specs.Ordering.{module_of}
use Rattle.cu_modules.specs.Scopes.{export_list, imports_of, own_entities, scope}
use Rattle.cu_modules.proofs.ExportLemmas.{imports_in}
use Rattle.cu_modules.proofs.ListingLemmas.{same_items}
use Rattle.cu_modules.proofs.ToldLemmas.{whole_told}
use Rattle.cu_modules.proofs.checking.first_fault.Goals as goal

pub returns : goal.returns
returns c = λ names before differ has are scoped.
    let m = c.args.module.now in
    let owner = m.name in
    let named = module_of names m in
    let exports = export_list_faults before named (export_list named.syntax.header) in
    let imports = flat_map (import_faults before) (imports_of named) in
    let one = (c.in_ok-tell_export_list.ensures names before differ has scoped).told [] (c.new-first.ensures owner names) in
    let two = (c.in_ok-tell_imports.ensures owner names before (imports_of named) differ
    (imports_in owner names (imports_of named) c.as_slice.result.now c.args.scoped.now.imports.items c.as_slice.ensures.value scoped.imports) are).told exports one in
    let known = c.in_ok-known.ensures names (own_entities named) differ
    (same_items names (own_entities named) c.args.scoped.now.own.items c.as_slice-2.result.now c.as_slice-2.ensures.value scoped.own) in
    let three = c.in_ok-items_faults.ensures owner names (own_values named) (scope before named) (exports ++ imports) differ scoped.bindings.tells known (c.items.ensures.owned owner names has.owned) two in
    c.fault.ensures owner names (faults before named)
    (whole_told owner names exports imports (scope before named) (own_values named) _ named.syntax.items c.items_faults.new.first (c.items.ensures.meaning names) three)
