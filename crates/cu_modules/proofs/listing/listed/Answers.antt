use Rattle.std.proofs.Common.{map, refl}
use Rattle.cu_syntax.specs.Items.{export_meaning}
use Rattle.cu_modules.specs.Ordering.{module_of}
use Rattle.cu_modules.specs.Scopes.{exports_by}
use Rattle.cu_modules.proofs.ListingLemmas.{all_flat, export_owned, one_flat}
use Rattle.cu_modules.proofs.listing.listed.Goals as goal

pub exports-preserved : goal.exports-preserved
exports-preserved c = λ names before differ has are scoped owned.
    let m = c.args.module.now in
    let xs = c.args.exports.now in
    let i = c.exports.export-index in
    let x = c.export-item.result in
    one_flat names (exports_by before (module_of names m)) (export_meaning names) xs i x x c.exports.all.items c.as_slice.result.now c.in_ok-more.more.items c.extend_from_slice.new.self.items c.exports-test.true c.export-item.is
    c.as_slice.ensures.value c.in_ok-extend_from_slice.ensures.items
    (c.in_ok-more.ensures names before differ has are scoped (export_owned m.name names xs i x c.exports-test.true c.export-item.is owned)) (c.exports.invariant names before differ has are scoped owned)

pub returns : goal.returns
returns c = λ names before differ has are scoped owned.
    all_flat names (exports_by before (module_of names c.args.module.now)) (export_meaning names) c.args.exports.now c.exports.export-index (map (export_meaning names) c.args.exports.now) c.exports.all.items c.exports-test.false refl
    (c.exports.invariant names before differ has are scoped owned)
