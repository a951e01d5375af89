use Rattle.cu_deftree.specs.Inside.Groups.{indices}
use Rattle.cu_deftree.proofs.GroupSteps.{added_in, all_in}
use Rattle.cu_deftree.proofs.groups.Groups.new.Goals as goal

pub loop-index-preserved : goal.loop-index-preserved
loop-index-preserved c one =
    added_in c.args.position one c.args.rows.now c.loop-index.index c.index-rows-index.result _ (indices c.loop-index.groups one)
    (indices c.add.new.self one) _ c.loop-index-test.true c.index-rows-index.is c.demand_at.ensures
    (c.in_ok-add.ensures one) (c.loop-index.invariant one)

pub returns : goal.returns
returns c one =
    all_in c.args.position one c.args.rows.now c.loop-index.index (indices c.loop-index.groups one) _
    c.loop-index-test.false (c.loop-index.invariant one)
