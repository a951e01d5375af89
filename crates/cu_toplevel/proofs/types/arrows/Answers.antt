use Rattle.cu_toplevel.proofs.TypeLemmas.{popped}
use Rattle.cu_toplevel.proofs.types.arrows.Goals as goal

pub left-preserved : goal.left-preserved
left-preserved c = popped c.pop.new.self.items c.left.left.items c.in-Some.from c.left.whole c.in_ok-whole.whole _ c.in-Some.ensures.items c.in_ok-whole.ensures c.left.invariant
