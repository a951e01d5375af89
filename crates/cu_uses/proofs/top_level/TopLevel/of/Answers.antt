use Rattle.cu_uses.specs.Inside.Tops.{items_top}
use Rattle.cu_uses.proofs.TopLemmas.{all_read, top_end, top_prefix}
use Rattle.cu_uses.proofs.top_level.TopLevel.of.Goals as goal

pub loop-item-preserved : goal.loop-item-preserved
loop-item-preserved c owner names after differ all rest =
    c.loop-item.invariant owner names after differ all
    (top_prefix owner names c.args.items.now c.loop-item.item-index c.item-item.result c.loop-item.declared c.item.new.self after c.item-item.is c.loop-item-test.true all
    (λ of. c.in_ok-item.ensures owner names differ of) rest)

pub returns : goal.returns
returns c owner names differ all =
    all_read owner names c.new-declared.result c.loop-item.declared (items_top names c.args.items.now) c.new-declared.ensures.values c.new-declared.ensures.types c.new-declared.ensures.fixed
    (c.loop-item.invariant owner names c.loop-item.declared differ all (top_end owner names c.args.items.now c.loop-item.item-index c.loop-item.declared c.loop-item-test.false))
