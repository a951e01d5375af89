use Rattle.std.proofs.Common.{◌<◌, ◌≤◌, ℕ, List, length, refl, subst, arith}
use Rattle.std.proofs.lemmas.Option.{slice_get_read}
use Rattle.cu_lift.proofs.Noting.{users_all, users_next, users_none}
use Rattle.cu_lift.specs.Inside.Capturing.{Adds}
use Rattle.cu_lift.proofs.captures.users.Goals as goal

pub loop-user-init : goal.loop-user-init
loop-user-init c = users_none c.args.locals.now c.in_ok-users.users.items c.in_ok-users.ensures.sized c.in_ok-users.ensures.empty

pub loop-user-preserved : goal.loop-user-preserved
loop-user-preserved c =
    let locals = c.args.locals.now in
    let n = c.loop-user.user in
    let low : n < length locals = omega arith in
    let l = c.index-locals-user.result in
    users_next locals n l c.loop-user.users.items c.add_user.new.users.items c.loop-user.invariant
    (slice_get_read locals (length locals) n l refl low c.index-locals-user.is)
    (subst (λ (xs : List ℕ). Adds xs n c.loop-user.users.items c.add_user.new.users.items) c.as_slice.ensures.value c.in_ok-add_user.ensures)

pub returns : goal.returns
returns c =
    let end : length c.args.locals.now ≤ c.loop-user.user = omega arith in
    users_all c.args.locals.now c.loop-user.user c.loop-user.users.items end c.loop-user.invariant
