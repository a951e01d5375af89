-- What one look and one departure do.
use Rattle.std.proofs.Common.{◌≡◌, ℕ, suc, ◌+◌, ◌<◌, ◌≤◌, Bool, true, false, List, [], ◌∷◌, ◌++◌, None, Some, refl, ap, sym, ◌∙◌, subst, length, map, take, drop, get_or, arith}
use Rattle.std.proofs.lemmas.List.{map-append}
use Rattle.std.proofs.Math.Seq.{drop-cons, take-suc}
use Rattle.cu_calculus.specs.declared.ConId.{ConId}
use Rattle.cu_machine.specs.Graph.{Graph, node_at}
use Rattle.cu_machine.specs.Need.{Need, At, Dead, Done, before, first, unless_done}
use Rattle.cu_step.specs.declared.need.Ask.{Ask}
use Rattle.cu_step.specs.declared.need.Frame.{Frame}
use Rattle.cu_step.specs.declared.need.Look.{Look}
use Rattle.cu_step.specs.declared.need.Look.TheVariants as look
use Rattle.cu_step.specs.declared.need.Mark.{Mark}
use Rattle.cu_step.specs.declared.need.Mark.TheVariants as mark
use Rattle.cu_step.specs.Inside.Walk.{Fits, Found, FrameFits, IsBelow, IsPath, LookFits, MarkFits, also, asked, at_once, cost, entered, entered_at, frame_cost, height, inside_need, is_inside, is_open, look_need, looked_at, mark_at, mark_of, marked_need, met, needed_by, needed_outside, outcome, so_far, then_needed, waited, whole_need, with_frame}
use Rattle.cu_step.proofs.Frames.{cost_append, fit_prefix, fit_last, fit_push, open_append, outcome_at, outcome_dead, outside_append}
use Rattle.cu_step.proofs.Needs.{before_done, first_append}
use Rattle.cu_step.proofs.Marks.{below_lower, below_push, below_shut, mark_shut, path_prefix, path_push}
use Rattle.cu_step.proofs.Walks.{Met, met_enter, met_free, met_known, met_stuck}

-- ---- a look is met

-- a need that is known to be another
need_is : (truth : ConId) (graph : Graph) (f g : Found) (n m : Need) → n ≡ m → Met truth graph f g m → Met truth graph f g n
need_is truth graph f g n m same met = subst (λ (k : Need). Met truth graph f g k) (sym same) met

fits_as : (truth : ConId) (graph : Graph) (f : Found) (n m : Need) → n ≡ m → Fits truth graph f n → Fits truth graph f m
fits_as truth graph f n m same fits = subst (λ (k : Need). Fits truth graph f k) same fits

met_there : (truth : ConId) (graph : Graph) (f : Found) → Fits truth graph f Done → Met truth graph f f Done
met_there truth graph f fits = record { fits = fits; comes = refl; keeps = λ marked. marked; takes = λ marked. omega arith }

marks_of : (truth : ConId) (graph : Graph) (f : Found) (n : Need) (b : Bool) (id : ℕ) → Fits truth graph f n → id < length graph
    → MarkFits (so_far f) (is_open b id f.frames) (mark_of f b id) (marked_need b truth graph id)
marks_of truth graph f n true id fits below = fits.inside id below
marks_of truth graph f n false id fits below = fits.whole id below

node_met : (truth : ConId) (graph : Graph) (f : Found) (id : ℕ) (a : Ask) (m : Mark) → mark_of f (is_inside a) id ≡ m → Fits truth graph f (entered truth graph id a)
    → id < length graph → marked_need (is_inside a) truth graph id ≡ entered truth graph id a → IsBelow graph id f.frames
    → MarkFits (so_far f) (is_open (is_inside a) id f.frames) m (marked_need (is_inside a) truth graph id)
    → Met truth graph f (entered_at f id a m) (entered truth graph id a)
node_met truth graph f id a mark.There is fits below needs lower marked =
    need_is truth graph f f (entered truth graph id a) Done (sym needs ∙ marked)
    (met_there truth graph f (fits_as truth graph f (entered truth graph id a) Done (sym needs ∙ marked) fits))
node_met truth graph f id a mark.Waits is fits below needs lower marked =
    need_is truth graph f (waited f) (entered truth graph id a) (marked_need (is_inside a) truth graph id) (sym needs)
    (met_known truth graph f (marked_need (is_inside a) truth graph id)
    (fits_as truth graph f (entered truth graph id a) (marked_need (is_inside a) truth graph id) (sym needs) fits)
    (marked (below_shut graph (is_inside a) id f.frames lower)))
node_met truth graph f id a mark.Unseen is fits below needs lower marked = met_enter truth graph f id a (is_inside a) refl fits below needs lower is

-- whatever is as low is below all of them
abbrev IsLower : Graph → ℕ → List Frame → Type 0
IsLower graph top frames = (id : ℕ) → height graph id ≤ top → IsBelow graph id frames

pub look_met : (truth : ConId) (graph : Graph) (f : Found) (top : ℕ) (l : Look) → Fits truth graph f (look_need truth graph l) → LookFits truth graph top l
    → IsLower graph top f.frames → at_once l ≡ None → Met truth graph f (met f l) (look_need truth graph l)
look_met truth graph f top look.There fits look lower none = met_there truth graph f fits
look_met truth graph f top look.Stuck fits look lower none = met_stuck truth graph f fits
look_met truth graph f top (look.Free id) fits look lower none =
    met_free truth graph f id fits
look_met truth graph f top (look.Node id a) fits look lower none =
    node_met truth graph f id a (mark_of f (is_inside a) id) refl fits look.0 look.1 (lower id look.2)
    (marks_of truth graph f (entered truth graph id a) (is_inside a) id fits look.0)
look_met truth graph f top look.Dead fits look lower none = let no : ⊥ = cc in absurd no
look_met truth graph f top (look.At id) fits look lower none = let no : ⊥ = cc in absurd no

pub look_answers : (truth : ConId) (graph : Graph) (f : Found) (l : Look) (n : Need) → Some n ≡ at_once l → n ≡ outcome truth graph f (look_need truth graph l)
look_answers truth graph f look.Dead n is = let same : n ≡ Dead = cc in same ∙ sym (outcome_dead truth graph f)
look_answers truth graph f (look.At id) n is = let same : n ≡ At id = cc in same ∙ sym (outcome_at truth graph f id)
look_answers truth graph f _ n is = let no : ⊥ = cc in absurd no

-- ---- the next argument

one_more : (truth : ConId) (graph : Graph) (id : ℕ) (a : Ask) (i : ℕ) → i < length (looked_at graph id)
    → first (map (asked truth graph a id) (take (i + 1) (looked_at graph id)))
    ≡ before (first (map (asked truth graph a id) (take i (looked_at graph id)))) (asked truth graph a id (get_or (looked_at graph id) i 0))
one_more truth graph id a i within =
    ap (λ k. first (map (asked truth graph a id) (take k (looked_at graph id)))) more
    ∙ ap (λ xs. first (map (asked truth graph a id) xs)) (take-suc (looked_at graph id) i 0 within)
    ∙ ap first (map-append (asked truth graph a id) (take i (looked_at graph id)) (get_or (looked_at graph id) i 0 ∷ []))
    ∙ first_append (map (asked truth graph a id) (take i (looked_at graph id))) (asked truth graph a id (get_or (looked_at graph id) i 0) ∷ [])
    ∙ ap (before (first (map (asked truth graph a id) (take i (looked_at graph id))))) (before_done (asked truth graph a id (get_or (looked_at graph id) i 0)))
  where
    more : i + 1 ≡ suc i
    more = omega arith

abbrev further : Frame → Frame
further frame = record frame { next = frame.next + 1 }

next_fits : (truth : ConId) (graph : Graph) (told_so_far : Need) (frame : Frame) → FrameFits truth graph told_so_far frame Done
    → frame.next < length (looked_at graph frame.node)
    → FrameFits truth graph told_so_far (further frame) (asked truth graph frame.ask frame.node (get_or (looked_at graph frame.node) frame.next 0))
next_fits truth graph told_so_far frame fits within = record {
  there = fits.there;
  next = omega arith;
  needs = fits.needs;
  earlier = fits.earlier;
  seen = fits.seen;
  is = one_more truth graph frame.node frame.ask frame.next within
      ∙ ap (λ n. before n (asked truth graph frame.ask frame.node (get_or (looked_at graph frame.node) frame.next 0))) (fits.is ∙ before_done fits.earlier);
}

by_further : (truth : ConId) (graph : Graph) (frame : Frame) → frame.next < length (looked_at graph frame.node)
    → needed_by truth graph (further frame) (asked truth graph frame.ask frame.node (get_or (looked_at graph frame.node) frame.next 0)) ≡ needed_by truth graph frame Done
unfolding needed_by
by_further truth graph frame within =
    ap (λ n. unless_done (also frame.waits n) (then_needed truth graph frame.node (node_at graph frame.node).kind frame.ask (node_at graph frame.node).args))
    (ap (λ k. before (asked truth graph frame.ask frame.node (get_or (looked_at graph frame.node) frame.next 0))
    (first (map (asked truth graph frame.ask frame.node) (drop k (looked_at graph frame.node))))) more
    ∙ sym (ap (λ xs. first (map (asked truth graph frame.ask frame.node) xs)) (drop-cons (looked_at graph frame.node) frame.next 0 within)))
  where
    more : frame.next + 1 ≡ suc frame.next
    more = omega arith

pub next_argument : (truth : ConId) (graph : Graph) (f : Found) (frame : Frame) → Fits truth graph (with_frame f frame) Done
    → frame.next < length (looked_at graph frame.node)
    → Fits truth graph (with_frame f (further frame)) (asked truth graph frame.ask frame.node (get_or (looked_at graph frame.node) frame.next 0))
next_argument truth graph f frame fits within =
    let same : (inside : Bool) (id : ℕ) → is_open inside id (f.frames ++ further frame ∷ []) ≡ is_open inside id (f.frames ++ frame ∷ []) =
    λ inside id. open_append inside id f.frames (further frame) ∙ sym (open_append inside id f.frames frame) in
    record {
      whole = λ id below. mark_shut (so_far f) (is_open false id (f.frames ++ frame ∷ [])) (is_open false id (f.frames ++ further frame ∷ [])) (mark_at f.whole id)
          (whole_need truth graph id) (λ shut. sym (same false id) ∙ shut) (fits.whole id below);
      inside = λ id below. mark_shut (so_far f) (is_open true id (f.frames ++ frame ∷ [])) (is_open true id (f.frames ++ further frame ∷ [])) (mark_at f.inside id)
          (inside_need graph id) (λ shut. sym (same true id) ∙ shut) (fits.inside id below);
      none = fits.none;
      fit = fit_push truth graph (so_far f) f.frames (further frame) (asked truth graph frame.ask frame.node (get_or (looked_at graph frame.node) frame.next 0))
          (fit_prefix truth graph (so_far f) f.frames frame Done fits.fit) (next_fits truth graph (so_far f) frame (fit_last truth graph (so_far f) f.frames frame Done fits.fit) within);
      path = (let path = path_prefix graph f.frames frame fits.path in path_push graph f.frames (further frame) path.0 path.1);
    }

pub next_outcome : (truth : ConId) (graph : Graph) (f : Found) (frame : Frame) → frame.next < length (looked_at graph frame.node)
    → outcome truth graph (with_frame f (further frame)) (asked truth graph frame.ask frame.node (get_or (looked_at graph frame.node) frame.next 0))
    ≡ outcome truth graph (with_frame f frame) Done
unfolding outcome
next_outcome truth graph f frame within =
    ap (before (so_far f)) (
    outside_append truth graph f.frames (further frame) (asked truth graph frame.ask frame.node (get_or (looked_at graph frame.node) frame.next 0))
    ∙ ap (needed_outside truth graph f.frames) (by_further truth graph frame within)
    ∙ sym (outside_append truth graph f.frames frame Done))

pub next_cost : (graph : Graph) (f : Found) (frame : Frame) → frame.next < length (looked_at graph frame.node)
    → cost graph (with_frame f (further frame)) < cost graph (with_frame f frame)
unfolding cost frame_cost
next_cost graph f frame within =
    let old = cost_append graph f.frames frame in
    let new = cost_append graph f.frames (further frame) in
    omega arith

-- what is lower than the innermost node is lower than all
pub next_lower : (graph : Graph) (f : Found) (frame : Frame) (top : ℕ) → IsPath graph (f.frames ++ frame ∷ []) → top < height graph frame.node
    → (id : ℕ) → height graph id ≤ top → IsBelow graph id (f.frames ++ further frame ∷ [])
next_lower graph f frame top path less id low =
    below_push graph id f.frames (further frame) (below_lower graph id frame.node f.frames (omega arith) (path_prefix graph f.frames frame path).1) (omega arith)
