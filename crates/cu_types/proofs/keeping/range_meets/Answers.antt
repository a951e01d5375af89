use Rattle.cu_types.proofs.KeepingLemmas.{range_here, range_later, range_none, range_start}
use Rattle.cu_types.proofs.keeping.range_meets.Goals as goal
use Rattle.cu_types.specs.Inside.Keeping.{numbers_from, some_meets}
use Rattle.cu_types.specs.Meaning.{subst_of}

pub loop-offset-init : goal.loop-offset-init
loop-offset-init c = range_start (subst_of c.args.subst.now) c.args.variables.now c.args.first c.args.count

pub returns : goal.returns
returns c =
    range_none (subst_of c.args.subst.now) c.args.variables.now c.args.first c.args.count c.loop-offset.offset
    (some_meets (subst_of c.args.subst.now) c.args.variables.now (numbers_from c.args.first c.args.count)) c.loop-offset-test.false
    c.loop-offset.invariant

pub loop-offset-preserved : goal.loop-offset-preserved
loop-offset-preserved c =
    range_later (subst_of c.args.subst.now) c.args.variables.now c.args.first c.args.count c.loop-offset.offset c.in-Some.x
    c.variable_meets.result (some_meets (subst_of c.args.subst.now) c.args.variables.now (numbers_from c.args.first c.args.count))
    c.loop-offset-test.true c.in-Some.ensures.1 c.variable_meets.ensures c.if-variable_meets.false c.loop-offset.invariant

pub returns-then-variable_meets : goal.returns-then-variable_meets
returns-then-variable_meets c =
    range_here (subst_of c.args.subst.now) c.args.variables.now c.args.first c.args.count c.loop-offset.offset c.in-Some.x
    c.variable_meets.result (some_meets (subst_of c.args.subst.now) c.args.variables.now (numbers_from c.args.first c.args.count))
    c.loop-offset-test.true c.in-Some.ensures.1 c.variable_meets.ensures c.if-variable_meets.true c.loop-offset.invariant
