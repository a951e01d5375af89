-- One more free variable is pushed, with its index.
use Rattle.cu_step.proofs.Frees.{push_more}
use Rattle.cu_step.proofs.free.push.Goals as goal

pub loop-preserved : goal.loop-preserved
loop-preserved g c =
    push_more (g.S.Store.content c.args.store.now) (g.S.Store.content c.loop.store) (g.S.Store.content c.push.new.store)
    c.loop.places.items c.push-in-loop.new.self.items c.loop.counter c.in_ok-place.place
    c.loop.invariant.0 c.loop.invariant.1 c.in_ok-place.ensures.place c.in_ok-place.ensures.content c.in_ok-push.ensures.items
