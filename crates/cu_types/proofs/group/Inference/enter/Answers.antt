use Rattle.std.proofs.Common.{◌<◌, get_or, refl, ◌∙◌, sym, subst}
use Rattle.std.proofs.Math.ListN.{length-set}
use Rattle.std.proofs.lemmas.Option.{slice_get-get_or}
use Rattle.cu_calculus.specs.declared.FunId.{FunId}
use Rattle.cu_types.proofs.GroupLemmas.{end_end, end_step, entered_end, entered_step}
use Rattle.cu_types.specs.Inside.Grouping.{end_from, entered}
use Rattle.cu_types.specs.declared.known.Known.TheVariants as kind
use Rattle.cu_types.proofs.group.Inference.enter.Goals as goal

pub loop-f-init : goal.loop-f-init
loop-f-init c = record { known = refl; end = refl; sized = refl }

pub member-requires : goal.member-requires
member-requires c = c.requires.tables

pub bounds-known-f : goal.bounds-known-f
bounds-known-f c =
    let d : FunId = record { 0 = 0 } in
    let i = c.loop-f.f-index in
    subst (λ n. (get_or c.args.group.now i d).0 < n) (sym c.loop-f.invariant.sized)
    (c.requires.within i (get_or c.args.group.now i d) (slice_get-get_or c.args.group.now i d c.loop-f-test.true))

pub loop-f-preserved : goal.loop-f-preserved
loop-f-preserved c =
    let d : FunId = record { 0 = 0 } in
    let p = c.args.self.now.program.now in
    let i = c.loop-f.f-index in
    record {
      known = entered_step p c.loop-f.next c.in_ok-next.next c.args.group.now i d c.loop-f.known c.in_ok-m.m
          (entered p 0 c.args.group.now c.args.known.now) c.loop-f-test.true c.in_ok-m.ensures c.in_ok-next.ensures c.loop-f.invariant.known;
      end = end_step p c.loop-f.next c.in_ok-next.next c.args.group.now i d c.in_ok-m.m (end_from p 0 c.args.group.now) c.loop-f-test.true
          c.in_ok-m.ensures c.in_ok-next.ensures c.loop-f.invariant.end;
      sized = length-set c.loop-f.known (get_or c.args.group.now i d).0 (kind.Member c.in_ok-m.m) ∙ c.loop-f.invariant.sized;
    }

pub returns-clause-known : goal.returns-clause-known
returns-clause-known c =
    let p = c.args.self.now.program.now in
    entered_end p c.loop-f.next c.args.group.now c.loop-f.f-index c.loop-f.known (entered p 0 c.args.group.now c.args.known.now)
    c.loop-f-test.false c.loop-f.invariant.known

pub returns-clause-next : goal.returns-clause-next
returns-clause-next c =
    let p = c.args.self.now.program.now in
    end_end p c.loop-f.next c.args.group.now c.loop-f.f-index (end_from p 0 c.args.group.now) c.loop-f-test.false c.loop-f.invariant.end
