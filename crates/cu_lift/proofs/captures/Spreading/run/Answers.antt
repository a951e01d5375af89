use Rattle.std.proofs.Common.{rules, ◌≡◌, ◌<◌, ◌≤◌, length, refl, arith}
use Rattle.cu_lift.proofs.Spreads.{popped_left, popped_met, popped_nothing, spreads_empty, spreads_popped}
use Rattle.cu_lift.specs.Inside.Capturing.{left}
use Rattle.cu_lift.specs.declared.captures.Spreading.{Spreading}
use Rattle.cu_lift.proofs.captures.Spreading.run.Goals as goal

pub loop-callee-init : goal.loop-callee-init
loop-callee-init c = (c.requires.spreads, λ k h. h)

pub widen-requires : goal.widen-requires
widen-requires c =
    let s = c.loop-callee.self in
    let popped : Spreading = record { met = s.met; pending = c.pop.new.self } in record {
      users = c.requires.users;
      spreads = spreads_popped c.args.locals.now c.args.x c.in-Some.callee s popped refl c.in-Some.ensures.items c.loop-callee.invariant.0;
      met = popped_met c.args.locals.now c.args.x c.in-Some.callee s.pending.items c.pop.new.self.items s refl c.in-Some.ensures.items c.loop-callee.invariant.0;
    }

pub loop-callee-preserved : goal.loop-callee-preserved
loop-callee-preserved c = (c.in_ok-widen.ensures.spreads, λ k h. c.in_ok-widen.ensures.stays k (c.loop-callee.invariant.1 k h))

pub loop-callee-smaller : goal.loop-callee-smaller
loop-callee-smaller c =
    let s = c.loop-callee.self in
    let popped : Spreading = record { met = s.met; pending = c.pop.new.self } in
    let a : left popped < left s = popped_left c.in-Some.callee s popped refl c.in-Some.ensures.items in
    let b : left c.widen.new.self ≤ left popped = c.in_ok-widen.ensures.left in
    let all : left c.widen.new.self < left s = omega arith in
    all

pub returns : goal.returns
returns c =
    let s = c.loop-callee.self in
    let popped : Spreading = record { met = s.met; pending = c.pop.new.self } in
    let size : Rattle.std.specs.Vec.vec_len s.pending ≡ length s.pending.items = search rules in
    let none = popped_nothing c.pop.result (Rattle.std.specs.Vec.vec_len s.pending) s.pending.items c.pop.new.self.items c.pop.ensures.items c.pop.ensures.variant.1 size c.in_default.not-Some in
    record {
      spreads = spreads_empty c.args.locals.now c.args.x s popped refl none.0 none.1 c.loop-callee.invariant.0;
      stays = c.loop-callee.invariant.1;
      done = none.1;
    }
