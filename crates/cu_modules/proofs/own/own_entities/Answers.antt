use Rattle.cu_modules.proofs.OwnLemmas.{all_declared, item_more}
use Rattle.cu_modules.proofs.own.own_entities.Goals as goal

pub items-preserved : goal.items-preserved
items-preserved c =
    item_more c.args.names.now c.args.module.now c.items-item-items.result.now c.items.item-index c.item-item.result c.items.entities.items c.declare.new.entities.items
    c.items-test.true c.item-item.is c.requires.has (c.items-item-items.ensures.owned c.args.module.now.name c.args.names.now c.requires.has.owned)
    (λ before known owned has. c.in_ok-declare.ensures c.args.names.now before known owned has) c.items.invariant

pub returns : goal.returns
returns c =
    all_declared c.args.names.now c.args.module.now c.items-item-items.result.now c.items.item-index c.items.entities.items c.items-test.false (c.items-item-items.ensures.meaning c.args.names.now) c.items.invariant
