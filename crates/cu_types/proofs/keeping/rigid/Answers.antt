use Rattle.cu_types.proofs.KeepingLemmas.{became_end, became_more, became_none, became_start}
use Rattle.cu_types.proofs.keeping.rigid.Goals as goal
use Rattle.cu_types.specs.Inside.Keeping.{became, numbers_from}
use Rattle.cu_types.specs.Meaning.{subst_of}

pub loop-offset-init : goal.loop-offset-init
loop-offset-init c =
    became_start (subst_of c.args.subst.now) c.args.first c.args.count c.new-found.result.items c.new-found.ensures.items

pub loop-offset-preserved : goal.loop-offset-preserved
loop-offset-preserved c =
    became_more (subst_of c.args.subst.now) c.args.first c.args.count c.loop-offset.offset c.in-Some.x c.in-Some-variable.y
    c.loop-offset.found.items c.push.new.self.items (became (subst_of c.args.subst.now) (numbers_from c.args.first c.args.count))
    c.loop-offset-test.true c.in-Some.ensures.1 c.in-Some-variable.ensures c.in_ok-push.ensures.items c.loop-offset.invariant

pub returns : goal.returns
returns c =
    became_end (subst_of c.args.subst.now) c.args.first c.args.count c.loop-offset.offset c.loop-offset.found.items
    (became (subst_of c.args.subst.now) (numbers_from c.args.first c.args.count)) c.loop-offset-test.false c.loop-offset.invariant

pub returns-in_default-variable : goal.returns-in_default-variable
returns-in_default-variable c =
    became_none (subst_of c.args.subst.now) c.args.first c.args.count c.loop-offset.offset c.in-Some.x c.loop-offset.found.items
    (became (subst_of c.args.subst.now) (numbers_from c.args.first c.args.count)) c.loop-offset-test.true c.in-Some.ensures.1
    c.in_default-variable.ensures c.loop-offset.invariant
