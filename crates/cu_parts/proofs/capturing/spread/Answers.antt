use Rattle.std.proofs.Common.{◌≡◌, ◌-◌, ℕ, suc, Bool, arith, map, subst}
use Rattle.cu_kernel.specs.LocalKernelOf.{local_function_meaning}
use Rattle.cu_parts.proofs.CapturingSteps.{more_already, more_now, next_round}
use Rattle.cu_parts.specs.Inside.Capturing.{Round}
use Rattle.cu_parts.proofs.capturing.spread.Goals as goal

pub loop-place-preserved-then-more : goal.loop-place-preserved-then-more
loop-place-preserved-then-more c =
    let locals = map local_function_meaning c.args.locals.now in
    let p = c.loop-place.place in
    let old = c.args.met.now in
    let one : p ≡ suc (p - 1) = omega arith in
    let before = subst (λ (n : ℕ). Round locals c.args.x n old c.loop-place.met c.loop-place.more) one c.loop-place.invariant.round in
    let next = next_round locals c.args.x (p - 1) old c.loop-place.met c.meet-first.new.met c.loop-place.more c.meet-first.result before c.meet-first.ensures in
    record {
      place = omega arith;
      round = subst (λ (b : Bool). Round locals c.args.x (p - 1) old c.meet-first.new.met b) (more_already c.loop-place.more c.meet-first.result c.if-more.true) next;
    }

pub loop-place-preserved : goal.loop-place-preserved
loop-place-preserved c =
    let locals = map local_function_meaning c.args.locals.now in
    let p = c.loop-place.place in
    let old = c.args.met.now in
    let one : p ≡ suc (p - 1) = omega arith in
    let before = subst (λ (n : ℕ). Round locals c.args.x n old c.loop-place.met c.loop-place.more) one c.loop-place.invariant.round in
    let next = next_round locals c.args.x (p - 1) old c.loop-place.met c.meet-first.new.met c.loop-place.more c.meet-first.result before c.meet-first.ensures in
    record {
      place = omega arith;
      round = subst (λ (b : Bool). Round locals c.args.x (p - 1) old c.meet-first.new.met b) (more_now c.loop-place.more c.meet-first.result c.if-more.false) next;
    }
