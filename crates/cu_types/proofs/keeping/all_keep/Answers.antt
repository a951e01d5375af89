use Rattle.std.proofs.Common.{[], get_or, refl}
use Rattle.cu_calculus.specs.declared.FunId.{FunId}
use Rattle.cu_types.proofs.KeepingLemmas.{pending_end, pending_more, pending_none, pending_start}
use Rattle.cu_types.proofs.keeping.all_keep.Goals as goal
use Rattle.cu_types.specs.Inside.Keeping.{with_members}
use Rattle.cu_types.specs.Meaning.{subst_of}

pub loop-f-init : goal.loop-f-init
loop-f-init c = λ kernel ms are.
    pending_start kernel c.args.known.now (subst_of c.args.subst.now) c.nothing_seen-seen.result.keys c.args.group.now ms c.nothing_seen-seen.ensures are

pub returns : goal.returns
returns c = λ kernel ms are. (
  c.loop-f.seen.keys,
  pending_end kernel c.args.known.now (subst_of c.args.subst.now) c.loop-f.seen.keys c.args.group.now c.loop-f.f-index
      (with_members (subst_of c.args.subst.now) [] ms) c.loop-f-test.false (c.loop-f.invariant kernel ms are),
)

pub loop-f-preserved : goal.loop-f-preserved
loop-f-preserved c = λ kernel ms are.
    let d : FunId = record { 0 = 0 } in
    pending_more kernel c.args.known.now (subst_of c.args.subst.now) c.loop-f.seen.keys c.known_keeps.new.seen.keys c.args.group.now
    c.loop-f.f-index (get_or c.args.group.now c.loop-f.f-index d) d c.in_ok-kept.kept (with_members (subst_of c.args.subst.now) [] ms) c.loop-f-test.true
    refl (λ m of_group. c.in_ok-kept.ensures kernel m of_group) c.if-not-kept.false (c.loop-f.invariant kernel ms are)

pub returns-then-not-kept : goal.returns-then-not-kept
returns-then-not-kept c = λ kernel ms are.
    let d : FunId = record { 0 = 0 } in (
      [],
      pending_none kernel c.args.known.now (subst_of c.args.subst.now) c.loop-f.seen.keys c.known_keeps.new.seen.keys c.args.group.now
          c.loop-f.f-index (get_or c.args.group.now c.loop-f.f-index d) d c.in_ok-kept.kept (with_members (subst_of c.args.subst.now) [] ms) c.loop-f-test.true
          refl (λ m of_group. c.in_ok-kept.ensures kernel m of_group) c.if-not-kept.true (c.loop-f.invariant kernel ms are),
    )
