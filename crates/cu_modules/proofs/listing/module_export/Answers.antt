use Rattle.std.proofs.Common.{false, true}
use Rattle.cu_modules.specs.Ordering.{module_of}
use Rattle.cu_modules.specs.Scopes.{imports_of, own_entities}
use Rattle.cu_modules.proofs.ExportLemmas.{copied, imports_in, of_module}
use Rattle.cu_modules.proofs.ListingLemmas.{same_items}
use Rattle.cu_modules.proofs.listing.module_export.Goals as goal

pub returns-then-eq : goal.returns-then-eq
returns-then-eq c = λ names before at differ has are scoped own.
    let m = c.args.module.now in
    let mine = own_entities (module_of names m) in
    let slice = c.as_slice-own.result.now in
    of_module names before m at c.args.name.now c.eq.result true c.from_slice.result c.eq.ensures c.if-eq.true differ own.text has.known
    (copied names mine slice c.from_slice.result (same_items names mine c.args.scoped.now.own.items slice c.as_slice-own.ensures.value scoped.own) c.from_slice.ensures.items)

pub returns : goal.returns
returns c = λ names before at differ has are scoped own.
    let m = c.args.module.now in
    let mine = own_entities (module_of names m) in
    let slice = c.as_slice-own.result.now in
    let imports = imports_of (module_of names m) in
    of_module names before m at c.args.name.now c.eq.result false c.module_exports.result c.eq.ensures c.if-eq.false differ own.text has.known
    (c.module_exports.ensures m.name names mine before imports differ own.text
    (imports_in m.name names imports c.as_slice.result.now c.args.scoped.now.imports.items c.as_slice.ensures.value scoped.imports)
    (c.in_ok-visible.ensures names mine differ (same_items names mine c.args.scoped.now.own.items slice c.as_slice-own.ensures.value scoped.own)) are)
