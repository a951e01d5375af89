use Rattle.cu_modules.proofs.ImportLemmas.{none_more, one_more, reads_first}
use Rattle.cu_modules.proofs.imports.written.Goals as goal

pub items-init : goal.items-init
items-init c = λ names has.
    reads_first names c.args.module.now c.items-item-items.result.now c.new-names.result.items c.new-names.ensures.items (c.items-item-items.ensures.meaning names) (c.items-item-items.ensures.owned c.args.module.now.name names has.owned)

pub items-preserved-in_default : goal.items-preserved-in_default
items-preserved-in_default c = λ names has.
    let m = c.args.module.now in
    none_more names m c.items-item-items.result.now c.items.item-index c.item-item.result c.items.names.items c.in_ok-name.field-0 c.items-test.true c.item-item.is c.in_default.is (c.items.invariant names has) (c.in_ok-name.ensures m.name names)

pub items-preserved : goal.items-preserved
items-preserved c = λ names has.
    let m = c.args.module.now in
    one_more names m c.items-item-items.result.now c.items.item-index c.item-item.result c.items.names.items c.push.new.self.items c.in_ok-name.field-0 c.in-Some.name c.items-test.true c.item-item.is c.in-Some.is c.in_ok-push.ensures.items (c.items.invariant names has) (c.in_ok-name.ensures m.name names)
