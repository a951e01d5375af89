use Rattle.cu_declared.proofs.ArityLemmas.{uses_end, uses_next}
use Rattle.cu_declared.proofs.arities.tell_arities.Goals as goal

pub loop-used-preserved : goal.loop-used-preserved
loop-used-preserved c w numbers after at all have rest =
    c.loop-used.invariant w numbers after at all have
    (uses_next w numbers c.args.uses.now c.loop-used.used-index c.loop-used.first c.tell_arity.new.first after c.loop-used-test.true all
    (λ of. c.tell_arity.ensures w numbers at of have) rest)

pub returns : goal.returns
returns c w numbers at all have =
    c.loop-used.invariant w numbers c.loop-used.first at all have (uses_end w numbers c.args.uses.now c.loop-used.used-index c.loop-used.first c.loop-used-test.false)
