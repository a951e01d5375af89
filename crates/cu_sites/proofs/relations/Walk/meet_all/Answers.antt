use Rattle.std.proofs.Common.{arith}
use Rattle.cu_sites.proofs.RelationLemmas.{meets_end, meets_next}
use Rattle.cu_sites.proofs.relations.Walk.meet_all.Goals as goal

pub loop-number-init : goal.loop-number-init
loop-number-init c end h = h

pub loop-number-preserved : goal.loop-number-preserved
loop-number-preserved c end h =
    c.loop-number.invariant end
    (meets_next c.args.numbers.now c.loop-number.number-index c.loop-number.self c.meet.new.self end (omega arith) c.in_ok-meet.ensures h)

pub returns : goal.returns
returns c = c.loop-number.invariant c.loop-number.self (meets_end c.args.numbers.now c.loop-number.number-index c.loop-number.self (omega arith))
