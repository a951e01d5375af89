use Rattle.cu_syntax.specs.Owners.{ItemIsOf}
use Rattle.cu_declared.proofs.ItemLemmas.{items_end, items_prefix}
use Rattle.cu_declared.proofs.items.items_uses.Goals as goal

pub loop-item-preserved : goal.loop-item-preserved
loop-item-preserved c owner names after all rest =
    c.loop-item.invariant owner names after all
    (items_prefix (ItemIsOf owner names) owner names c.args.items.now c.loop-item.item-index c.item-item.result c.loop-item.found.items c.item_uses.new.found.items after c.item-item.is c.loop-item-test.true all
    (λ of. c.in_ok-item_uses.ensures owner names of) rest)

pub returns : goal.returns
returns c owner names all =
    c.loop-item.invariant owner names c.loop-item.found.items all (items_end owner names c.args.items.now c.loop-item.item-index c.loop-item.found.items c.loop-item-test.false)
