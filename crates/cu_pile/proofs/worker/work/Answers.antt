use Rattle.std.proofs.Common.{◌≡◌, ◌<◌, ◌≤◌, ◌++◌, ◌∷◌, [], length, Some, subst, ap, ◌∙◌, arith}
use Rattle.std.proofs.lemmas.List.Elements.{All-push}
use Rattle.std.specs.Prelude.{slice_get}
use Rattle.cu_pile.specs.Seats.{view_of, EndsWith}
use Rattle.cu_pile.specs.Inside.Steps.{slot_of}
use Rattle.cu_pile.proofs.Working.{past_more, draw_asks, all_below, only_below, nearer, slot_past, in_order, all_outcomes, told_below}
use Rattle.cu_pile.proofs.worker.work.Goals as goal

pub draw-number-requires-in-loop-number-after_bounds : goal.draw-number-requires-in-loop-number-after_bounds
draw-number-requires-in-loop-number-after_bounds g c κs within =
    let inv = c.loop-number.invariant in let items = (view_of c.args.worker.now.seat).items in
    let count = c.count.ensures ∙ ap (λ v. length v.items) inv.2 in let low : c.loop-number.number < length items = omega (arith, c.loop-number-test.true, count) in
    draw_asks items c.loop-number.worker.seat.me.0 c.take-item.new.self.seat.me.0 inv.0 c.loop-number.number c.take-item.ensures.view (ap (λ v. v.items) inv.2) (ap (λ v. v.drawn) inv.2) inv.4 low

pub loop-number-smaller : goal.loop-number-smaller
loop-number-smaller g c =
    let inv = c.loop-number.invariant in let items = (view_of c.args.worker.now.seat).items in
    let count = c.count.ensures ∙ ap (λ v. length v.items) inv.2 in let low : c.loop-number.number < length items = omega (arith, c.loop-number-test.true, count) in
    let ends : EndsWith c.take-item.new.self.seat.me.0.drawn c.loop-number.number = (inv.0, ap (λ v. v.drawn) c.take-item.ensures.view ∙ ap (λ v. v.drawn) inv.2) in
    nearer (length items) c.loop-number.number c.draw-number-in-loop-number.result (c.draw-number-in-loop-number.ensures.later c.loop-number.number ends) low

pub loop-number-preserved : goal.loop-number-preserved
loop-number-preserved g c =
    let inv = c.loop-number.invariant in let items = (view_of c.args.worker.now.seat).items in let next = c.draw-number-in-loop-number in
    let count = c.count.ensures ∙ ap (λ v. length v.items) inv.2 in let low : c.loop-number.number < length items = omega (arith, c.loop-number-test.true, count) in
    let view = c.take-item.ensures.view ∙ inv.2 in (
      inv.0 ++ c.loop-number.number ∷ [],
      next.ensures.table ∙ (c.take-item.ensures.table ∙ inv.1),
      next.ensures.drawn ∙ ap (λ v. Rattle.cu_pile.specs.Inside.Steps.with_number v next.result) view,
      next.ensures.slot ∙ ap (λ v. slot_of next.result (slice_get v.items next.result)) view,
      past_more (length items) inv.0 c.loop-number.number inv.4 low,
      c.with_outcome-outcomes.ensures items inv.0 (subst (λ v. slice_get v.items c.loop-number.number ≡ Some c.take-item.result) inv.2 c.take-item.ensures.item) inv.5,
      All-push (g.G.Gate.told c.args.gate.now) inv.0 c.loop-number.number inv.6 c.enter.ensures,
    )

pub returns-clause-drawn : goal.returns-clause-drawn
returns-clause-drawn g c =
    let inv = c.loop-number.invariant in let items = (view_of c.args.worker.now.seat).items in
    let count = c.count.ensures ∙ ap (λ v. length v.items) inv.2 in let far : length items ≤ c.loop-number.number = omega (arith, c.loop-number-test.false, count) in
    (inv.0, c.loop-number.number, ap (λ v. v.drawn) inv.2, all_below (length items) inv.0 inv.4, far)

pub returns-clause-order : goal.returns-clause-order
returns-clause-order g c =
    let inv = c.loop-number.invariant in let items = (view_of c.args.worker.now.seat).items in let drawn = (view_of c.loop-number.worker.seat).drawn in
    let count = c.count.ensures ∙ ap (λ v. length v.items) inv.2 in let far : length items ≤ c.loop-number.number = omega (arith, c.loop-number-test.false, count) in
    in_order (g.J.Job.promises c.args.job.now) items inv.0 drawn c.loop-number.outcomes
    (ap (λ v. Rattle.cu_pile.specs.Outcomes.numbers_below (length items) v.drawn) inv.2 ∙ only_below (length items) inv.0 c.loop-number.number inv.4 far) inv.5

pub returns-clause-told : goal.returns-clause-told
returns-clause-told g c =
    let inv = c.loop-number.invariant in let items = (view_of c.args.worker.now.seat).items in
    let count = c.count.ensures ∙ ap (λ v. length v.items) inv.2 in let far : length items ≤ c.loop-number.number = omega (arith, c.loop-number-test.false, count) in
    told_below (g.G.Gate.told c.args.gate.now) (length items) inv.0 c.loop-number.number (view_of c.loop-number.worker.seat).drawn (ap (λ v. v.drawn) inv.2) inv.4 far inv.6

pub returns-clause-outcomes : goal.returns-clause-outcomes
returns-clause-outcomes g c =
    let inv = c.loop-number.invariant in all_outcomes (g.J.Job.promises c.args.job.now) (view_of c.args.worker.now.seat).items inv.0 c.loop-number.outcomes inv.5

pub returns-clause-slots : goal.returns-clause-slots
returns-clause-slots g c =
    let inv = c.loop-number.invariant in let items = (view_of c.args.worker.now.seat).items in
    let count = c.count.ensures ∙ ap (λ v. length v.items) inv.2 in let far : length items ≤ c.loop-number.number = omega (arith, c.loop-number-test.false, count) in
    inv.3 ∙ slot_past items c.loop-number.number far
