use Rattle.std.proofs.Common.{rules, ◌≡◌, ◌<◌, ◌≤◌, ◌+◌, ◌∙◌, ℕ, Some, false, ap, length, refl, sym, subst, arith}
use Rattle.std.proofs.lemmas.Option.{slice_get-get_or, slice_get_read}
use Rattle.std.specs.declared.alloc.Global.{Global}
use Rattle.std.specs.declared.vec.Vec.{Vec}
use Rattle.cu_lift.proofs.SetSteps.{pushes_none, pushes_one, pushes_skip}
use Rattle.cu_lift.specs.Inside.Capturing.{Pushes}
use Rattle.cu_lift.specs.Inside.Ordering.{Row}
use Rattle.cu_lift.proofs.captures.push_captured.Goals.{then-captures+in_ok-push, else-captures}
use Rattle.cu_lift.proofs.captures.push_captured.Goals as goal

pub loop-function-init : goal.loop-function-init
loop-function-init c = pushes_none c.args.met.now c.args.x c.args.sets.now.items

pub index_mut-requires : goal.index_mut-requires
index_mut-requires c =
    let low : c.loop-function.function < length c.args.met.now = omega arith in
    let same = c.requires in
    let sized = c.loop-function.invariant.sized in
    let size : Rattle.std.specs.Vec.vec_len c.loop-function.sets ≡ length c.loop-function.sets.items = search rules in
    omega arith

pub loop-function-preserved : goal.loop-function-preserved
loop-function-preserved c =
    let met = c.args.met.now in
    let n = c.loop-function.function in
    let low : n < length met = omega arith in
    let same = c.requires in
    let sized = c.loop-function.invariant.sized in
    let sets = c.loop-function.sets.items in
    let under : n < length sets = omega arith in
    let at = slice_get-get_or met n false low in
    elim c.if-captures.branch [
      | then-captures+in_ok-push w ↦
          let row = slice_get_read sets (length sets) n w.index_mut.result.now refl under w.index_mut.ensures.value in
          subst (λ (v : Vec Row Global). Pushes met c.args.x (n + 1) c.args.sets.now.items v.items) (sym w.sets-is)
          (pushes_one met c.args.x n c.args.sets.now.items sets c.loop-function.invariant w.index_mut.result.now w.push.new.self
          (at ∙ ap Some w.if-captures.true) row w.in_ok-push.ensures.items)
      | else-captures w ↦
          subst (λ (v : Vec Row Global). Pushes met c.args.x (n + 1) c.args.sets.now.items v.items) (sym w.sets-is)
          (pushes_skip met c.args.x n c.args.sets.now.items sets c.loop-function.invariant (at ∙ ap Some w.if-captures.false))
    ]

pub returns : goal.returns
returns c =
    let n = c.loop-function.function in
    let same : n ≡ length c.args.met.now =
    let a : length c.args.met.now ≤ n = omega arith in let b = c.loop-function.auto.function-end in omega arith in
    subst (λ (k : ℕ). Pushes c.args.met.now c.args.x k c.args.sets.now.items c.loop-function.sets.items) same c.loop-function.invariant
