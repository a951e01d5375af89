use Rattle.std.proofs.Common.{◌∙◌, suc, sym, refl, arith}
use Rattle.cu_prooftext.proofs.NumberSteps.{up_end, up_next}
use Rattle.cu_prooftext.proofs.ranges.leads_above.Goals as goal

pub loop-high-init : goal.loop-high-init
loop-high-init c = (suc (suc c.args.last), omega arith, omega arith, omega arith, omega arith, refl)

pub loop-high-preserved : goal.loop-high-preserved
loop-high-preserved c =
    let i = c.loop-high.invariant in
    let n = up_next i.0 c.args.last c.loop-high.low c.loop-high.high i.1 i.2 c.loop-high-test.true in
    (n.0, n.1, n.2, omega (arith, i.3), omega arith, n.3 ∙ i.5)

pub returns : goal.returns
returns c =
    let i = c.loop-high.invariant in
    sym (up_end i.0 c.args.last c.loop-high.low c.loop-high.high i.1 c.loop-high-test.false) ∙ i.5
