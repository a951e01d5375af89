use Rattle.std.proofs.Common.{map}
use Rattle.std.specs.List.{flat_map}
use Rattle.cu_syntax.specs.Items.{export_meaning}
use Rattle.cu_modules.specs.Ordering.{module_of}
use Rattle.cu_modules.specs.Scopes.{exports_by, own_entities}
use Rattle.cu_modules.proofs.ExportLemmas.{list_owned, listed_as, with_list, without_list}
use Rattle.cu_modules.proofs.ListingLemmas.{same_items}
use Rattle.cu_modules.proofs.checking.exports.Goals as goal

pub returns-in_default : goal.returns-in_default
returns-in_default c = λ names before differ has are scoped right.
    let m = module_of names c.args.module.now in
    without_list names before m c.in_ok-list.field-0 c.each_once.result c.in_default.is (c.in_ok-list.ensures.meaning names)
    (c.each_once.ensures names (own_entities m) differ (same_items names (own_entities m) c.args.scoped.now.own.items c.as_slice.result.now c.as_slice.ensures.value scoped.own))

pub returns : goal.returns
returns c = λ names before differ has are scoped right.
    let owner = c.args.module.now.name in
    let m = module_of names c.args.module.now in
    let list = c.in-Some.list in
    with_list names before m c.in_ok-list.field-0 list c.each_once-2.result c.in-Some.is (c.in_ok-list.ensures.meaning names)
    (c.each_once-2.ensures names (flat_map (exports_by before m) (map (export_meaning names) list.items)) differ
    (listed_as names before m c.as_slice-2.result.now list.items c.as_slice-3.result.now c.in_ok-all.all.items c.as_slice-2.ensures.value c.as_slice-3.ensures.value
    (c.in_ok-all.ensures names before differ has are scoped (list_owned owner names c.in_ok-list.field-0 list c.as_slice-2.result.now c.in-Some.is c.as_slice-2.ensures.value (c.in_ok-list.ensures.owned names has)))))
