-- Lists of nodes that are being looked at.
use Rattle.std.proofs.Common.{◌≡◌, ℕ, ◌+◌, Bool, true, false, ◌&&◌, ◌||◌, List, [], ◌∷◌, ◌++◌, refl, ap, sym, ◌∙◌, map, drop, nat_eq, arith}
use Rattle.cu_calculus.specs.declared.ConId.{ConId}
use Rattle.cu_machine.specs.Graph.{Graph, node_at}
use Rattle.cu_machine.specs.Need.{Need, At, Dead, Done, Wait, before, first, unless_done}
use Rattle.cu_machine.proofs.FirstLaws.{before_assoc, before_itself}
use Rattle.cu_step.specs.declared.need.Frame.{Frame}
use Rattle.cu_step.specs.Inside.Walk.{AllFit, Found, asked, looked_at, then_needed, FrameFits, also, flagged, frame_cost, frames_cost, is_inside, is_open, marked_need, need_in, needed_by, needed_outside, outcome, regards, so_far, told}
use Rattle.cu_step.proofs.Needs.{also_waits, begins_also, begins_before, begins_unless, none_joined, same_also, same_before, same_told, same_unless, Same, seen_later, seen_wait, told_again}

abbrev flag : Frame → Frame
flag frame = record frame { waits = true }

pub flagged_last : (rest : List Frame) (frame : Frame) → flagged (rest ++ frame ∷ []) ≡ rest ++ record frame { waits = true } ∷ []
unfolding flagged
flagged_last [] frame = refl
flagged_last (x ∷ []) frame = refl
flagged_last (x ∷ y ∷ rest) frame = ap (λ fs. x ∷ fs) (flagged_last (y ∷ rest) frame)

-- ---- what comes out

pub outside_append : (truth : ConId) (graph : Graph) (frames : List Frame) (frame : Frame) (n : Need)
    → needed_outside truth graph (frames ++ frame ∷ []) n ≡ needed_outside truth graph frames (needed_by truth graph frame n)
unfolding needed_outside
outside_append truth graph [] frame n = refl
outside_append truth graph (x ∷ frames) frame n = ap (needed_by truth graph x) (outside_append truth graph frames frame n)

by_at : (truth : ConId) (graph : Graph) (frame : Frame) (waits : Bool) (id : ℕ) → frame.waits ≡ waits → needed_by truth graph frame (At id) ≡ At id
unfolding needed_by
by_at truth graph frame false id is = rw is refl
by_at truth graph frame true id is = rw is refl

by_dead : (truth : ConId) (graph : Graph) (frame : Frame) (waits : Bool) → frame.waits ≡ waits → needed_by truth graph frame Dead ≡ Dead
unfolding needed_by
by_dead truth graph frame false is = rw is refl
by_dead truth graph frame true is = rw is refl

pub outside_at : (truth : ConId) (graph : Graph) (frames : List Frame) (id : ℕ) → needed_outside truth graph frames (At id) ≡ At id
unfolding needed_outside
outside_at truth graph [] id = refl
outside_at truth graph (frame ∷ frames) id = ap (needed_by truth graph frame) (outside_at truth graph frames id) ∙ by_at truth graph frame frame.waits id refl

pub outside_dead : (truth : ConId) (graph : Graph) (frames : List Frame) → needed_outside truth graph frames Dead ≡ Dead
unfolding needed_outside
outside_dead truth graph [] = refl
outside_dead truth graph (frame ∷ frames) = ap (needed_by truth graph frame) (outside_dead truth graph frames) ∙ by_dead truth graph frame frame.waits refl

told_at : (waits : Bool) (ids : List ℕ) (id : ℕ) → before (told waits ids) (At id) ≡ At id
told_at false ids id = refl
told_at true ids id = refl

told_dead : (waits : Bool) (ids : List ℕ) → before (told waits ids) Dead ≡ Dead
told_dead false ids = refl
told_dead true ids = refl

pub outcome_at : (truth : ConId) (graph : Graph) (f : Found) (id : ℕ) → outcome truth graph f (At id) ≡ At id
unfolding outcome
outcome_at truth graph f id = ap (before (so_far f)) (outside_at truth graph f.frames id) ∙ told_at f.waits f.ids id

pub outcome_dead : (truth : ConId) (graph : Graph) (f : Found) → outcome truth graph f Dead ≡ Dead
unfolding outcome
outcome_dead truth graph f = ap (before (so_far f)) (outside_dead truth graph f.frames) ∙ told_dead f.waits f.ids

outside_same : (truth : ConId) (graph : Graph) (so_far : Need) (frames : List Frame) (n m : Need) → Same so_far n m
    → Same so_far (needed_outside truth graph frames n) (needed_outside truth graph frames m)
unfolding needed_outside needed_by
outside_same truth graph so_far [] n m same = same
outside_same truth graph so_far (frame ∷ frames) n m same =
    same_unless so_far _ _ _ (same_also so_far _ _ frame.waits (same_before so_far _ _ _ (outside_same truth graph so_far frames n m same)))

outside_begins : (truth : ConId) (graph : Graph) (ids : List ℕ) (frames : List Frame) (n : Need) → before (Wait ids) n ≡ n
    → before (Wait ids) (needed_outside truth graph frames n) ≡ needed_outside truth graph frames n
unfolding needed_outside needed_by
outside_begins truth graph ids [] n begins = begins
outside_begins truth graph ids (frame ∷ frames) n begins =
    begins_unless ids _ _ (begins_also ids _ frame.waits (begins_before ids _ _ (outside_begins truth graph ids frames n begins)))

-- a wait is told first, and then only that something waits
pub wait_out : (truth : ConId) (graph : Graph) (so_far : Need) (frames : List Frame) (ids : List ℕ)
    → before so_far (needed_outside truth graph frames (Wait ids)) ≡ before (before so_far (Wait ids)) (needed_outside truth graph frames (Wait []))
wait_out truth graph so_far frames ids =
    let later = before so_far (Wait ids) in
    sym (
    same_told later (needed_outside truth graph frames (Wait [])) (needed_outside truth graph frames (Wait ids))
    (outside_same truth graph later frames (Wait []) (Wait ids) (told_again so_far ids))
    ∙ before_assoc so_far (Wait ids) (needed_outside truth graph frames (Wait ids))
    ∙ ap (before so_far) (outside_begins truth graph ids frames (Wait ids) (before_itself (Wait ids))))

flag_by : (waits : Bool) (r e : Need) → unless_done (also waits (before (Wait []) r)) e ≡ unless_done (also true (before Done r)) e
flag_by waits r e = ap (λ n. unless_done n e) (also_waits waits r)

by_flagged : (truth : ConId) (graph : Graph) (frame : Frame) → needed_by truth graph frame (Wait []) ≡ needed_by truth graph (record frame { waits = true }) Done
unfolding needed_by
by_flagged truth graph frame =
    flag_by frame.waits (first (map (asked truth graph frame.ask frame.node) (drop frame.next (looked_at graph frame.node))))
    (then_needed truth graph frame.node (node_at graph frame.node).kind frame.ask (node_at graph frame.node).args)

outside_flagged : (truth : ConId) (graph : Graph) (frame : Frame) (frames : List Frame)
    → needed_outside truth graph (frame ∷ frames) (Wait []) ≡ needed_outside truth graph (flagged (frame ∷ frames)) Done
unfolding needed_outside flagged
outside_flagged truth graph frame [] = by_flagged truth graph frame
outside_flagged truth graph frame (x ∷ frames) = ap (needed_by truth graph frame) (outside_flagged truth graph x frames)

pub flagged_out : (truth : ConId) (graph : Graph) (ids : List ℕ) (frames : List Frame)
    → before (Wait ids) (needed_outside truth graph frames (Wait [])) ≡ before (Wait ids) (needed_outside truth graph (flagged frames) Done)
unfolding needed_outside flagged
flagged_out truth graph ids [] = ap Wait (none_joined ids)
flagged_out truth graph ids (frame ∷ frames) = ap (before (Wait ids)) (outside_flagged truth graph frame frames)

-- ---- what the last node is

pub in_append : (truth : ConId) (graph : Graph) (frames : List Frame) (frame : Frame) (n : Need)
    → need_in truth graph (frames ++ frame ∷ []) n ≡ need_in truth graph frames (marked_need (is_inside frame.ask) truth graph frame.node)
in_append truth graph [] frame n = refl
in_append truth graph (x ∷ frames) frame n = refl

pub fit_push : (truth : ConId) (graph : Graph) (so_far : Need) (frames : List Frame) (frame : Frame) (n : Need)
    → AllFit truth graph so_far frames (marked_need (is_inside frame.ask) truth graph frame.node) → FrameFits truth graph so_far frame n
    → AllFit truth graph so_far (frames ++ frame ∷ []) n
unfolding AllFit
fit_push truth graph so_far [] frame n fit last = (last, tt)
fit_push truth graph so_far (x ∷ []) frame n fit last = (fit.0, fit_push truth graph so_far [] frame n fit.1 last)
fit_push truth graph so_far (x ∷ y ∷ frames) frame n fit last = (fit.0, fit_push truth graph so_far (y ∷ frames) frame n fit.1 last)

pub fit_prefix : (truth : ConId) (graph : Graph) (so_far : Need) (frames : List Frame) (frame : Frame) (n : Need)
    → AllFit truth graph so_far (frames ++ frame ∷ []) n → AllFit truth graph so_far frames (marked_need (is_inside frame.ask) truth graph frame.node)
unfolding AllFit
fit_prefix truth graph so_far [] frame n fit = tt
fit_prefix truth graph so_far (x ∷ []) frame n fit = (fit.0, tt)
fit_prefix truth graph so_far (x ∷ y ∷ frames) frame n fit = (fit.0, fit_prefix truth graph so_far (y ∷ frames) frame n fit.1)

pub fit_last : (truth : ConId) (graph : Graph) (so_far : Need) (frames : List Frame) (frame : Frame) (n : Need)
    → AllFit truth graph so_far (frames ++ frame ∷ []) n → FrameFits truth graph so_far frame n
unfolding AllFit
fit_last truth graph so_far [] frame n fit = fit.0
fit_last truth graph so_far (x ∷ frames) frame n fit = fit_last truth graph so_far frames frame n fit.1

frame_later : (truth : ConId) (graph : Graph) (so_far : Need) (frame : Frame) (n more : Need)
    → FrameFits truth graph so_far frame n → FrameFits truth graph (before so_far more) frame n
frame_later truth graph so_far frame n more fit = record {
  there = fit.there;
  next = fit.next;
  needs = fit.needs;
  earlier = fit.earlier;
  seen = seen_later so_far fit.earlier more frame.waits fit.seen;
  is = fit.is;
}

frame_waits : (truth : ConId) (graph : Graph) (so_far : Need) (frame : Frame) (n : Need) (ids : List ℕ) → n ≡ Wait ids
    → FrameFits truth graph so_far frame n → FrameFits truth graph (before so_far n) (record frame { waits = true }) Done
frame_waits truth graph so_far frame n ids is fit = record {
  there = fit.there;
  next = fit.next;
  needs = fit.needs;
  earlier = before fit.earlier n;
  seen = seen_wait so_far fit.earlier n frame.waits ids fit.seen is;
  is = fit.is ∙ sym (before_nothing (before fit.earlier n));
}
  where
    before_nothing : (m : Need) → before m Done ≡ m
    before_nothing (At id) = refl
    before_nothing Dead = refl
    before_nothing Done = refl
    before_nothing (Wait ids) = refl

pub fit_waits : (truth : ConId) (graph : Graph) (so_far : Need) (frames : List Frame) (n : Need) (ids : List ℕ) → n ≡ Wait ids
    → AllFit truth graph so_far frames n → AllFit truth graph (before so_far n) (flagged frames) Done
unfolding AllFit flagged
fit_waits truth graph so_far [] n ids is fit = tt
fit_waits truth graph so_far (x ∷ []) n ids is fit = (frame_waits truth graph so_far x n ids is fit.0, tt)
fit_waits truth graph so_far (x ∷ y ∷ []) n ids is fit =
    (frame_later truth graph so_far x (marked_need (is_inside y.ask) truth graph y.node) n fit.0, fit_waits truth graph so_far (y ∷ []) n ids is fit.1)
fit_waits truth graph so_far (x ∷ y ∷ z ∷ frames) n ids is fit =
    (frame_later truth graph so_far x (marked_need (is_inside y.ask) truth graph y.node) n fit.0, fit_waits truth graph so_far (y ∷ z ∷ frames) n ids is fit.1)

-- ---- which nodes are open

pub open_flagged : (inside : Bool) (id : ℕ) (frames : List Frame) → is_open inside id (flagged frames) ≡ is_open inside id frames
unfolding is_open flagged
open_flagged inside id [] = refl
open_flagged inside id (x ∷ []) = refl
open_flagged inside id (x ∷ y ∷ frames) = ap (λ b. (nat_eq x.node id && regards inside x.ask) || b) (open_flagged inside id (y ∷ frames))

or_assoc : (a b c : Bool) → (a || (b || c)) ≡ ((a || b) || c)
or_assoc true b c = refl
or_assoc false b c = refl

or_false : (a : Bool) → (a || false) ≡ a
or_false true = refl
or_false false = refl

pub open_append : (inside : Bool) (id : ℕ) (frames : List Frame) (frame : Frame)
    → is_open inside id (frames ++ frame ∷ []) ≡ (is_open inside id frames || (nat_eq frame.node id && regards inside frame.ask))
unfolding is_open
open_append inside id [] frame = or_false (nat_eq frame.node id && regards inside frame.ask)
open_append inside id (x ∷ frames) frame =
    ap (λ b. (nat_eq x.node id && regards inside x.ask) || b) (open_append inside id frames frame)
    ∙ or_assoc (nat_eq x.node id && regards inside x.ask) (is_open inside id frames) (nat_eq frame.node id && regards inside frame.ask)

-- ---- costs

pub cost_flagged : (graph : Graph) (frames : List Frame) → frames_cost graph (flagged frames) ≡ frames_cost graph frames
unfolding frames_cost frame_cost flagged
cost_flagged graph [] = refl
cost_flagged graph (x ∷ []) = refl
cost_flagged graph (x ∷ y ∷ frames) = ap (λ c. frame_cost graph x + c) (cost_flagged graph (y ∷ frames))

pub cost_append : (graph : Graph) (frames : List Frame) (frame : Frame) → frames_cost graph (frames ++ frame ∷ []) ≡ frames_cost graph frames + frame_cost graph frame
unfolding frames_cost
cost_append graph [] frame = omega arith
cost_append graph (x ∷ frames) frame = let rest = cost_append graph frames frame in omega arith
