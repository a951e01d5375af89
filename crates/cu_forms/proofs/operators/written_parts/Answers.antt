use Rattle.cu_fixity.specs.Parts.{written_parts}
use Rattle.cu_fixity.proofs.WrittenLemmas.{item_written}
use Rattle.cu_forms.proofs.operators.written_parts.Goals as goal

pub loop-item-preserved : goal.loop-item-preserved
loop-item-preserved c =
    item_written c.args.items.now.rest.items c.deref-item-items.result.now c.loop-item.item-index c.item-item.result c.loop-item.parts.items
    c.push.new.self.items c.push_operand-in-loop-item.new.found.items (written_parts c.args.items.now) c.deref-item-items.ensures.value
    c.loop-item-test.true c.item-item.is c.loop-item.invariant c.in_ok-push.ensures.items c.in_ok-push_operand-2.ensures
