use Rattle.std.proofs.Common.{rules, ◌≡◌, ◌<◌, ◌≤◌, ◌+◌, ℕ, List, get_or, length, refl, sym, take, subst, arith}
use Rattle.std.proofs.lemmas.Option.{slice_get-get_or, slice_get_read}
use Rattle.std.specs.declared.alloc.Global.{Global}
use Rattle.std.specs.declared.vec.Vec.{Vec}
use Rattle.cu_lift.proofs.Noting.{adds_none, adds_one, adds_outside, take_whole}
use Rattle.cu_lift.specs.Inside.Capturing.{Adds}
use Rattle.cu_lift.specs.Inside.Ordering.{Row}
use Rattle.cu_lift.proofs.captures.add_user.Goals.{then-callee-len+in_ok-push, else-callee-len}
use Rattle.cu_lift.proofs.captures.add_user.Goals as goal

pub loop-call-init : goal.loop-call-init
loop-call-init c = adds_none c.args.calls.now c.args.user c.args.users.now.items

pub index_mut-requires : goal.index_mut-requires
index_mut-requires c = let less = c.if-callee-len.true in let size = c.len.ensures in omega arith

pub loop-call-preserved : goal.loop-call-preserved
loop-call-preserved c =
    let calls = c.args.calls.now in
    let i = c.loop-call.call-index in
    let low : i < length calls = omega arith in
    let callee = get_or calls i 0 in
    let at = slice_get-get_or calls i 0 low in
    let rows = c.loop-call.users in
    let size : Rattle.std.specs.Vec.vec_len rows ≡ length rows.items = search rules in
    let len = c.len.ensures in
    elim c.if-callee-len.branch [
      | then-callee-len+in_ok-push w ↦
          let less : callee < length rows.items = let under = w.if-callee-len.true in omega arith in
          let row = slice_get_read rows.items (length rows.items) callee w.index_mut.result.now refl less w.index_mut.ensures.value in
          subst (λ (v : Vec Row Global). Adds (take (i + 1) calls) c.args.user c.args.users.now.items v.items) (sym w.users-is)
          (adds_one calls c.args.user i callee c.args.users.now.items rows.items at c.loop-call.invariant w.index_mut.result.now w.push.new.self row
          w.in_ok-push.ensures.items)
      | else-callee-len w ↦
          let out : length rows.items ≤ callee = let over = w.if-callee-len.false in omega arith in
          subst (λ (v : Vec Row Global). Adds (take (i + 1) calls) c.args.user c.args.users.now.items v.items) (sym w.users-is)
          (adds_outside calls c.args.user i callee c.args.users.now.items rows.items at c.loop-call.invariant out)
    ]

pub returns : goal.returns
returns c =
    let calls = c.args.calls.now in
    let end : length calls ≤ c.loop-call.call-index = omega arith in
    subst (λ (xs : List ℕ). Adds xs c.args.user c.args.users.now.items c.loop-call.users.items) (take_whole calls c.loop-call.call-index end) c.loop-call.invariant
