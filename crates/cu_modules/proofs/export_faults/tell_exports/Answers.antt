use Rattle.std.proofs.Common.{map, refl}
use Rattle.cu_syntax.specs.Items.{export_meaning}
use Rattle.cu_syntax.specs.Owners.{ExportIsOf}
use Rattle.cu_modules.specs.Faults.{export_faults}
use Rattle.cu_modules.specs.Ordering.{module_of}
use Rattle.cu_modules.proofs.ToldLemmas.{at_index, told_more, told_none, told_whole}
use Rattle.cu_modules.proofs.export_faults.tell_exports.Goals as goal

pub exports-init : goal.exports-init
exports-init c = λ names before differ has scoped owned. told_none c.args.module.now.name names c.args.first.now

pub exports-preserved : goal.exports-preserved
exports-preserved c = λ names before differ has scoped owned.
    let m = c.args.module.now in
    let xs = c.args.exports.now in
    let i = c.exports.export-index in
    let x = c.export-item.result in
    told_more m.name names (export_faults before (module_of names m)) (export_meaning names) xs i x x c.args.first.now c.exports.first c.tell_export.new.first c.exports-test.true c.export-item.is
    (c.in_ok-tell_export.ensures names before differ has scoped (at_index (ExportIsOf m.name names) xs i x c.exports-test.true c.export-item.is owned)) (c.exports.invariant names before differ has scoped owned)

pub returns : goal.returns
returns c = λ names before differ has scoped owned.
    let m = c.args.module.now in
    told_whole m.name names (export_faults before (module_of names m)) (export_meaning names) c.args.exports.now c.exports.export-index (map (export_meaning names) c.args.exports.now) c.args.first.now c.exports.first
    c.exports-test.false refl (c.exports.invariant names before differ has scoped owned)
