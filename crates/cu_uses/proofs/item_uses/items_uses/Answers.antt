use Rattle.cu_uses.proofs.TopLemmas.{items_end, items_prefix}
use Rattle.cu_uses.proofs.item_uses.items_uses.Goals as goal

pub loop-item-preserved : goal.loop-item-preserved
loop-item-preserved c w after sees all rest =
    c.loop-item.invariant w after sees all
    (items_prefix w c.args.items.now c.loop-item.item-index c.item-item.result c.loop-item.first c.item_uses.new.first after c.item-item.is c.loop-item-test.true all
    (λ of. c.in_ok-item_uses.ensures w sees of) rest)

pub returns : goal.returns
returns c w sees all = c.loop-item.invariant w c.loop-item.first sees all (items_end w c.args.items.now c.loop-item.item-index c.loop-item.first c.loop-item-test.false)
