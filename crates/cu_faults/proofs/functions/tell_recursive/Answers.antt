use Rattle.cu_faults.proofs.RecursiveLemmas.{all_are, all_end, all_prefix}
use Rattle.cu_faults.proofs.ToldLemmas.{told_as}
use Rattle.cu_faults.proofs.functions.tell_recursive.Goals as goal

pub loop-variable-preserved : goal.loop-variable-preserved
loop-variable-preserved c nodes after are rest =
    c.loop-variable.invariant nodes after are
    (all_prefix nodes c.args.owner c.variables-variable-items.result.now c.loop-variable.variable-index _ c.loop-variable.first c.recursive.new.first after
    c.loop-variable-test.true (c.in_ok-recursive.ensures nodes are) rest)

pub returns : goal.returns
returns c nodes are =
    let variables = c.variables-variable-items.result.now in
    told_as (all_are nodes variables (c.variables-variable-items.ensures nodes are))
    (c.loop-variable.invariant nodes c.loop-variable.first are (all_end nodes c.args.owner variables c.loop-variable.variable-index c.loop-variable.first c.loop-variable-test.false))
