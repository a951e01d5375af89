use Rattle.std.proofs.Common.{refl}
use Rattle.cu_calculus.specs.declared.FunId.{FunId}
use Rattle.cu_types.proofs.GroupLemmas.{left_end, left_step}
use Rattle.cu_types.proofs.GroupSteps.{stays_both, stays_none}
use Rattle.cu_types.specs.Inside.Grouping.{left}
use Rattle.cu_types.specs.Meaning.{subst_of}
use Rattle.cu_types.proofs.group.Inference.leave.Goals as goal

pub loop-f-init : goal.loop-f-init
loop-f-init c = record { known = refl; stays = stays_none c.args.subst.now c.requires.table c.requires.places }

pub leave_function-requires-clause-table : goal.leave_function-requires-clause-table
leave_function-requires-clause-table c = c.loop-f.invariant.stays.table

pub leave_function-requires-clause-places : goal.leave_function-requires-clause-places
leave_function-requires-clause-places c = c.loop-f.invariant.stays.places

pub loop-f-preserved : goal.loop-f-preserved
loop-f-preserved c =
    let d : FunId = record { 0 = 0 } in
    let σ = subst_of c.args.subst.now in
    record {
      known = left_step σ (subst_of c.loop-f.subst) c.args.group.now c.loop-f.f-index d c.loop-f.known c.leave_function.new.known
          (left σ c.args.group.now c.args.known.now) c.loop-f-test.true c.loop-f.invariant.stays.same c.in_ok-leave_function.ensures.known
          c.loop-f.invariant.known;
      stays = stays_both c.args.subst.now c.loop-f.subst c.leave_function.new.subst c.loop-f.invariant.stays c.in_ok-leave_function.ensures.stays;
    }

pub returns : goal.returns
returns c =
    let σ = subst_of c.args.subst.now in
    left_end σ c.args.group.now c.loop-f.f-index c.loop-f.known (left σ c.args.group.now c.args.known.now) c.loop-f-test.false
    c.loop-f.invariant.known
