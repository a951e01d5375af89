use Rattle.std.proofs.Common.{◌≡◌, ◌<◌, ◌≤◌, ◌+◌, ◌∷◌, [], ℕ, List, Some, true, get_or, length, refl, slice_get, sym, subst, arith}
use Rattle.std.proofs.lemmas.Option.{slice_get-get_or, slice_get_read}
use Rattle.cu_lift.proofs.Elements.{none_in}
use Rattle.cu_lift.proofs.Noting.{take_whole}
use Rattle.cu_cycles.proofs.Places.{within}
use Rattle.cu_lift.proofs.RowSteps.{in_row}
use Rattle.cu_lift.proofs.Spreads.{AreWoken, met_left, met_stays, spreads_done, spreads_met, user_meets, wakes_next, wakes_skip}
use Rattle.cu_lift.specs.Groups.{IsIn}
use Rattle.cu_lift.specs.Inside.Capturing.{Spreads, Stays, left}
use Rattle.cu_lift.specs.Inside.Ordering.{IsAt, Row}
use Rattle.cu_lift.specs.declared.captures.Local.{Local}
use Rattle.cu_lift.specs.declared.captures.Spreading.{Spreading}
use Rattle.cu_lift.proofs.captures.Spreading.widen.Goals.{then-not-is_bound+in_ok-meet, else-not-is_bound}
use Rattle.cu_lift.proofs.captures.Spreading.widen.Goals as goal

-- a user in a slice of a row
user_at : (users : List Row) (callee i : ℕ) (row : Row) (slice : List ℕ) → slice_get users callee ≡ Some row → slice ≡ row.items → i < length slice
    → IsAt users callee (get_or slice i 0)
user_at users callee i row slice e same low =
    (row, e, (i, subst (λ (xs : List ℕ). slice_get xs i ≡ Some (get_or slice i 0)) same (slice_get-get_or slice i 0 low)))

-- what holds of the first users
record Keeps (locals : List Local) (x callee n : ℕ) (row : List ℕ) (first s : Spreading) : Type 0 where
  spreads : Spreads locals x (callee ∷ []) s
  stays : Stays first s
  left : left s ≤ left first
  done : AreWoken locals x row n s

pub loop-user-init : goal.loop-user-init
loop-user-init c = record {
  spreads = c.requires.spreads;
  stays = λ k h. h;
  left = omega arith;
  done = λ k l h e free. absurd (none_in k h);
}

pub is_bound-requires : goal.is_bound-requires
is_bound-requires c =
    let i = c.loop-user.user-index in
    let slice = c.as_slice-row.result.now in
    let low : i < length slice = omega arith in
    let users = c.args.users.now in
    let callee = c.args.callee in
    let under : callee < length users =
    let a = within c.args.self.now.met.items callee true c.requires.met in
    let b = c.requires.spreads.sized in
    let d = c.requires.users.sized in omega arith in
    let row = slice_get_read users (length users) callee c.index-users-callee.result refl under c.index-users-callee.is in
    let its = c.requires.users.calls callee (get_or slice i 0) (user_at users callee i c.index-users-callee.result slice row c.as_slice-row.ensures.value low) in
    within c.args.locals.now (get_or slice i 0) its.0 its.1

pub meet-requires : goal.meet-requires
meet-requires c =
    let i = c.loop-user.user-index in
    let slice = c.as_slice-row.result.now in
    let low : i < length slice = omega arith in
    let users = c.args.users.now in
    let callee = c.args.callee in
    let under : callee < length users =
    let a = within c.args.self.now.met.items callee true c.requires.met in
    let b = c.requires.spreads.sized in
    let d = c.requires.users.sized in omega arith in
    let row = slice_get_read users (length users) callee c.index-users-callee.result refl under c.index-users-callee.is in
    let its = c.requires.users.calls callee (get_or slice i 0) (user_at users callee i c.index-users-callee.result slice row c.as_slice-row.ensures.value low) in
    let fits = within c.args.locals.now (get_or slice i 0) its.0 its.1 in
    let size = c.loop-user.invariant.spreads.sized in
    omega arith

pub loop-user-preserved : goal.loop-user-preserved
loop-user-preserved c =
    let i = c.loop-user.user-index in
    let slice = c.as_slice-row.result.now in
    let low : i < length slice = omega arith in
    let users = c.args.users.now in
    let locals = c.args.locals.now in
    let callee = c.args.callee in
    let x = c.args.x in
    let s = c.loop-user.self in
    let inv = c.loop-user.invariant in
    let under : callee < length users =
    let a = within c.args.self.now.met.items callee true c.requires.met in
    let b = c.requires.spreads.sized in
    let d = c.requires.users.sized in omega arith in
    let row = slice_get_read users (length users) callee c.index-users-callee.result refl under c.index-users-callee.is in
    let u = get_or slice i 0 in
    let user = user_at users callee i c.index-users-callee.result slice row c.as_slice-row.ensures.value low in
    let its = c.requires.users.calls callee u user in
    let fits : u < length locals = within locals u its.0 its.1 in
    let l = its.0 in
    let at = its.1 in
    let place = slice_get-get_or slice i 0 low in
    elim c.if-not-is_bound.branch [
      | then-not-is_bound+in_ok-meet w ↦
          let met = w.in_ok-meet.ensures in
          let meets = user_meets locals users x callee u l s (callee ∷ []) c.requires.users inv.spreads (inv.stays callee c.requires.met) user at
          (c.is_bound.ensures.fails w.if-not-is_bound.true l at) in
          let less = met_left u s w.meet.new.self met in
          let before = inv.left in
          let keeps : Keeps locals x callee (i + 1) slice c.args.self.now w.meet.new.self = record {
            spreads = spreads_met locals x (callee ∷ []) u s w.meet.new.self inv.spreads meets met;
            stays = λ k h. met_stays u s w.meet.new.self met k (inv.stays k h);
            left = omega arith;
            done = wakes_next locals x slice i u s w.meet.new.self place met inv.done;
          } in
          let all = subst (λ (t : Spreading). Keeps locals x callee (i + 1) slice c.args.self.now t) (sym w.self-is) keeps in
          record { spreads = all.spreads; stays = all.stays; left = all.left; done = all.done }
      | else-not-is_bound w ↦
          let keeps : Keeps locals x callee (i + 1) slice c.args.self.now s = record {
            spreads = inv.spreads;
            stays = inv.stays;
            left = inv.left;
            done = wakes_skip locals x slice i u l s place at (c.is_bound.ensures.holds w.if-not-is_bound.false l at) inv.done;
          } in
          let all = subst (λ (t : Spreading). Keeps locals x callee (i + 1) slice c.args.self.now t) (sym w.self-is) keeps in
          record { spreads = all.spreads; stays = all.stays; left = all.left; done = all.done }
    ]

pub returns : goal.returns
returns c =
    let slice = c.as_slice-row.result.now in
    let users = c.args.users.now in
    let callee = c.args.callee in
    let low : callee < length c.args.locals.now =
    let a = within c.args.self.now.met.items callee true c.requires.met in
    let b = c.requires.spreads.sized in omega arith in
    let under : callee < length users = let d = c.requires.users.sized in omega arith in
    let row = slice_get_read users (length users) callee c.index-users-callee.result refl under c.index-users-callee.is in
    let end : length slice ≤ c.loop-user.user-index = omega arith in
    let whole = take_whole slice c.loop-user.user-index end in record {
      spreads = spreads_done c.args.locals.now users c.args.x callee slice c.loop-user.self c.requires.users low
          (λ k at. subst (λ (xs : List ℕ). IsIn xs k) (sym c.as_slice-row.ensures.value) (in_row users callee k c.index-users-callee.result row at))
          (λ k l h e free. c.loop-user.invariant.done k l (subst (λ (xs : List ℕ). IsIn xs k) (sym whole) h) e free) c.loop-user.invariant.spreads;
      stays = c.loop-user.invariant.stays;
      left = c.loop-user.invariant.left;
    }
