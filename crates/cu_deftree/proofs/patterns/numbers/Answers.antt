use Rattle.std.proofs.Common.{◌+◌}
use Rattle.cu_deftree.proofs.NameLaws.{next_number}
use Rattle.cu_deftree.proofs.patterns.numbers.Goals as goal

pub loop-x-preserved : goal.loop-x-preserved
loop-x-preserved c =
    next_number c.loop-x.all.items c.push.new.self.items _ c.loop-x.x (c.args.from + c.args.count) c.loop-x-test.true c.in_ok-push.ensures.items c.loop-x.invariant
