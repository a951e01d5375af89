-- One node more is taken from the right.
use Rattle.std.proofs.Common.{arith}
use Rattle.cu_step.proofs.Joints.{joins_more}
use Rattle.cu_step.proofs.pairs.join.Goals as goal

pub loop-left-preserved : goal.loop-left-preserved
loop-left-preserved g c =
    let more =
    joins_more c.args.joint (g.S.Store.content c.args.store.now) (g.S.Store.content c.loop-left.store) (g.S.Store.content c.push.new.store)
    c.args.last c.loop-left.left c.loop-left.place c.in_ok-place.place (omega arith) (omega arith)
    c.loop-left.invariant.2 c.loop-left.invariant.3 c.in_ok-place.ensures.place c.in_ok-place.ensures.content in
    (omega arith, omega arith, more.0, more.1)
