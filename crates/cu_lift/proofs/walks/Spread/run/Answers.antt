use Rattle.std.proofs.Common.{rules, ◌≡◌, ◌<◌, ◌≤◌, ℕ, inl, inr, length, subst, sym, arith}
use Rattle.cu_cycles.proofs.Places.{before_or_not}
use Rattle.cu_cycles.specs.Graph.{rows_in}
use Rattle.cu_lift.proofs.Trails.{done_stays, grows_on}
use Rattle.cu_lift.specs.Inside.Trail.{IsDone}
use Rattle.cu_lift.proofs.walks.Spread.run.Goals as goal

pub loop-next-preserved : goal.loop-next-preserved
loop-next-preserved c =
    let now = c.loop-next.self in
    let new = c.widen.new.self in
    let grows = c.in_ok-widen.ensures.grows in
    let low : c.loop-next.next < length now.found.items = search rules in (
      c.in_ok-widen.ensures.trail,
      grows_on c.args.self.now now new c.loop-next.invariant.1 grows,
      λ i less. elim (before_or_not i c.loop-next.next) [
        | inl under ↦ done_stays (rows_in c.args.graph.now) now new i grows (omega arith) (c.loop-next.invariant.2 i under)
        | inr over ↦
            let at : i ≡ c.loop-next.next = omega arith in
            subst (λ (k : ℕ). IsDone (rows_in c.args.graph.now) new k) (sym at) c.in_ok-widen.ensures.done
      ],
    )

pub returns-clause-done : goal.returns-clause-done
returns-clause-done c i low =
    let end : length c.loop-next.self.found.items ≤ c.loop-next.next = search rules in
    c.loop-next.invariant.2 i (omega arith)
