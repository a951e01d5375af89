use Rattle.cu_fixity.specs.Parts.{written_pattern}
use Rattle.cu_fixity.proofs.WrittenLemmas.{constructor_written}
use Rattle.cu_forms.proofs.pattern_parts.written_parts.Goals as goal

pub loop-item-preserved : goal.loop-item-preserved
loop-item-preserved c =
    constructor_written c.args.items.now.rest.items c.deref-item-items.result.now c.loop-item.item-index c.item-item.result c.loop-item.parts.items
    c.push.new.self.items c.push-in-loop-item.new.self.items (written_pattern c.args.items.now) c.deref-item-items.ensures.value
    c.loop-item-test.true c.item-item.is c.loop-item.invariant c.in_ok-push.ensures.items c.in_ok-push-2.ensures.items
