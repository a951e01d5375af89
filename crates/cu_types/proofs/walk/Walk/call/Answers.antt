use Rattle.cu_types.proofs.WalkLemmas.{call_walks}
use Rattle.cu_types.proofs.walk.Walk.call.Goals as goal

pub returns : goal.returns
returns c =
    call_walks c.args.self.now c.variable.new.self c.arrows_to.new.self c.head.new.self c.args.head c.args.first c.args.count c.args.t
    c.in_ok-right.right c.in_ok-whole.whole c.in_ok-right.ensures c.in_ok-whole.ensures c.in_ok-head.ensures
