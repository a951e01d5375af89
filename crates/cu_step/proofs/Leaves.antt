-- A node whose arguments were all looked at is left.
use Rattle.std.proofs.Common.{◌≡◌, ℕ, ◌+◌, ◌<◌, ◌≤◌, Bool, true, false, not, ◌&&◌, ◌||◌, List, [], ◌∷◌, ◌++◌, None, Some, refl, ap, sym, ◌∙◌, subst, length, map, nat_eq, arith, eqb-true}
use Rattle.std.proofs.lemmas.List.{drop_all, length-set, take_all}
use Rattle.cu_calculus.specs.declared.ConId.{ConId}
use Rattle.cu_machine.specs.declared.Kind.{Kind}
use Rattle.cu_machine.specs.declared.Kind.TheVariants as kind
use Rattle.cu_machine.specs.Graph.{Graph, node_at}
use Rattle.cu_machine.specs.Need.{Need, At, Done, Wait, before, first, unless_done}
use Rattle.cu_step.specs.declared.need.Ask.{Ask}
use Rattle.cu_step.specs.declared.need.Ask.TheVariants as ask
use Rattle.cu_step.specs.declared.need.Frame.{Frame}
use Rattle.cu_step.specs.declared.need.Mark.{Mark}
use Rattle.cu_step.specs.declared.need.Mark.TheVariants as mark
use Rattle.cu_step.specs.Inside.Walk.{AllFit, Fits, Found, FrameFits, Goes, Marked, MarkFits, Seen, Waited, again_cost, also, asked, cost, entered, entered_as, frame_cost, fresh, inside_need, is_inside, is_open, left, left_answer, left_need, left_there, looked_at, mark_at, marked_need, needed_by, needed_outside, outcome, regards, so_far, then_needed, waited, whole_need, with_frame, with_mark}
use Rattle.cu_step.proofs.Frames.{cost_append, cost_flagged, fit_prefix, fit_last, fit_push, open_append, outcome_at, outside_append}
use Rattle.cu_step.proofs.Needs.{before_done}
use Rattle.cu_step.proofs.Marks.{mark_shut, path_prefix, path_push, set_cases, stuck_told}
use Rattle.cu_step.proofs.Walks.{by_fresh, cost_seen, fresh_fits, met_known, waits_outcome}

-- ---- what was seen of all arguments

all_seen : (truth : ConId) (graph : Graph) (told_so_far : Need) (frame : Frame) (fits : FrameFits truth graph told_so_far frame Done)
    → frame.next ≡ length (looked_at graph frame.node) → first (map (asked truth graph frame.ask frame.node) (looked_at graph frame.node)) ≡ fits.earlier
all_seen truth graph told_so_far frame fits last =
    let most : length (looked_at graph frame.node) ≤ frame.next = omega arith in
    ap (λ xs. first (map (asked truth graph frame.ask frame.node) xs)) (sym (take_all frame.next (looked_at graph frame.node) most)) ∙ fits.is ∙ before_done fits.earlier

abbrev then_at : ConId → Graph → Frame → Need
then_at truth graph frame = then_needed truth graph frame.node (node_at graph frame.node).kind frame.ask (node_at graph frame.node).args

by_last : (truth : ConId) (graph : Graph) (frame : Frame) → frame.next ≡ length (looked_at graph frame.node)
    → needed_by truth graph frame Done ≡ unless_done (also frame.waits Done) (then_at truth graph frame)
unfolding needed_by
by_last truth graph frame last =
    let most : length (looked_at graph frame.node) ≤ frame.next = omega arith in
    ap (λ xs. unless_done (also frame.waits (first (map (asked truth graph frame.ask frame.node) xs))) (then_at truth graph frame))
    (drop_all frame.next (looked_at graph frame.node) most)

last_out : (truth : ConId) (graph : Graph) (f : Found) (frame : Frame) (n : Need) → needed_by truth graph frame Done ≡ n
    → outcome truth graph (with_frame f frame) Done ≡ outcome truth graph f n
unfolding outcome
last_out truth graph f frame n is =
    ap (before (so_far f)) (outside_append truth graph f.frames frame Done ∙ ap (needed_outside truth graph f.frames) is)

-- ---- marks of what is left

and_left : (a b : Bool) → (a && b) ≡ true → a ≡ true
and_left true b is = refl
and_left false b is = is

and_right : (a b : Bool) → (a && b) ≡ true → b ≡ true
and_right true b is = is
and_right false b is = let no : ⊥ = cc in absurd no

left_mark : (told_so_far : Need) (inside : Bool) (frames : List Frame) (frame : Frame) (m : Mark) (n : Need) (other : ℕ)
    → (nat_eq frame.node other ≡ true → regards inside frame.ask ≡ true → Waited told_so_far n)
    → MarkFits told_so_far (is_open inside other (frames ++ frame ∷ [])) m n → MarkFits told_so_far (is_open inside other frames) m n
left_mark told_so_far inside frames frame mark.Unseen n other known fits = tt
left_mark told_so_far inside frames frame mark.There n other known fits = fits
left_mark told_so_far inside frames frame mark.Waits n other known fits = λ shut. go (nat_eq frame.node other && regards inside frame.ask) refl shut
  where
    go : (b : Bool) → (nat_eq frame.node other && regards inside frame.ask) ≡ b → is_open inside other frames ≡ false → Waited told_so_far n
    go true is shut = known (and_left (nat_eq frame.node other) (regards inside frame.ask) is) (and_right (nat_eq frame.node other) (regards inside frame.ask) is)
    go false is shut = fits (open_append inside other frames frame ∙ both (is_open inside other frames) (nat_eq frame.node other && regards inside frame.ask) shut is)
      where
        both : (a b : Bool) → a ≡ false → b ≡ false → (a || b) ≡ false
        both a b p q = rw (p, q) refl

not_inside : (b : Bool) → not b ≡ true → b ≡ false
not_inside true is = sym is
not_inside false is = refl

-- ---- where an argument waits

waits_left : (truth : ConId) (graph : Graph) (f : Found) (frame : Frame) → Fits truth graph (with_frame f frame) Done
    → Waited (so_far f) (marked_need (is_inside frame.ask) truth graph frame.node) → Fits truth graph f (marked_need (is_inside frame.ask) truth graph frame.node)
waits_left truth graph f frame fits known = record {
  whole = λ id below. left_mark (so_far f) false f.frames frame (mark_at f.whole id) (whole_need truth graph id) id
      (λ same is. subst (λ (x : ℕ). Waited (so_far f) (whole_need truth graph x)) (eqb-true frame.node id same)
      (subst (λ (b : Bool). Waited (so_far f) (marked_need b truth graph frame.node)) (not_inside (is_inside frame.ask) is) known)) (fits.whole id below);
  inside = λ id below. left_mark (so_far f) true f.frames frame (mark_at f.inside id) (inside_need graph id) id
      (λ same is. subst (λ (x : ℕ). Waited (so_far f) (inside_need graph x)) (eqb-true frame.node id same)
      (subst (λ (b : Bool). Waited (so_far f) (marked_need b truth graph frame.node)) is known)) (fits.inside id below);
  none = fits.none;
  fit = fit_prefix truth graph (so_far f) f.frames frame Done fits.fit;
  path = (path_prefix graph f.frames frame fits.path).0;
}

waits_known : (truth : ConId) (graph : Graph) (told_so_far : Need) (frame : Frame) (waits : Bool) (earlier : Need) → frame.waits ≡ waits → waits ≡ true
    → Seen told_so_far frame.waits earlier → Waited told_so_far earlier
waits_known truth graph told_so_far frame true earlier is always seen = subst (λ (b : Bool). Seen told_so_far b earlier) is seen
waits_known truth graph told_so_far frame false earlier is always seen = let no : ⊥ = cc in absurd no

unless_waits : (told_so_far n e : Need) → Waited told_so_far n → Waited told_so_far (unless_done n e)
unless_waits told_so_far n e known = subst (λ (m : Need). Waited told_so_far m) (stays n known.ids known.is) known
  where
    stays : (m : Need) (ids : List ℕ) → m ≡ Wait ids → m ≡ unless_done m e
    stays m ids is = rw is refl

cost_left : (graph : Graph) (f : Found) (frame : Frame) → cost graph (waited f) < cost graph (with_frame f frame)
unfolding cost frame_cost
cost_left graph f frame =
    let same = cost_flagged graph f.frames in
    let more = cost_append graph f.frames frame in
    omega arith

pub goes_waiting : (truth : ConId) (graph : Graph) (f : Found) (frame : Frame) → Fits truth graph (with_frame f frame) Done
    → frame.next ≡ length (looked_at graph frame.node) → frame.waits ≡ true → Goes truth graph (with_frame f frame) (waited f)
unfolding entered
goes_waiting truth graph f frame fits last waits =
    let here : FrameFits truth graph (so_far f) frame Done = fit_last truth graph (so_far f) f.frames frame Done fits.fit in
    let seen : Waited (so_far f) here.earlier = waits_known truth graph (so_far f) frame frame.waits here.earlier refl waits here.seen in
    let all : Waited (so_far f) (first (map (asked truth graph frame.ask frame.node) (looked_at graph frame.node))) =
    subst (λ (n : Need). Waited (so_far f) n) (sym (all_seen truth graph (so_far f) frame here last)) seen in
    let known : Waited (so_far f) (marked_need (is_inside frame.ask) truth graph frame.node) =
    subst (λ (n : Need). Waited (so_far f) n) (sym here.needs)
    (unless_waits (so_far f) (first (map (asked truth graph frame.ask frame.node) (looked_at graph frame.node))) (then_at truth graph frame) all) in
    let met = met_known truth graph f (marked_need (is_inside frame.ask) truth graph frame.node) (waits_left truth graph f frame fits known) known in
    record {
      fits = met.fits;
      outcome = waits_outcome truth graph f (Wait []) [] f.ids f.inside refl (stuck_told f.waits f.ids fits.none)
          ∙ sym (last_out truth graph f frame (Wait []) (by_last truth graph frame last ∙ ap (λ b. unless_done (also b Done) (then_at truth graph frame)) waits));
      marked = λ marked. record { whole = marked.whole; inside = marked.inside };
      cost = λ marked. cost_left graph f frame;
    }

-- ---- where none does

pub none_waits : (truth : ConId) (graph : Graph) (told_so_far : Need) (frame : Frame) (fits : FrameFits truth graph told_so_far frame Done)
    → frame.next ≡ length (looked_at graph frame.node) → frame.waits ≡ false → marked_need (is_inside frame.ask) truth graph frame.node ≡ then_at truth graph frame
unfolding entered
none_waits truth graph told_so_far frame fits last waits =
    let done : fits.earlier ≡ Done = subst (λ (b : Bool). Seen told_so_far b fits.earlier) waits fits.seen in
    fits.needs ∙ ap (λ n. unless_done n (then_at truth graph frame)) (all_seen truth graph told_so_far frame fits last ∙ done)

none_out : (truth : ConId) (graph : Graph) (f : Found) (frame : Frame) → frame.next ≡ length (looked_at graph frame.node) → frame.waits ≡ false
    → outcome truth graph (with_frame f frame) Done ≡ outcome truth graph f (then_at truth graph frame)
none_out truth graph f frame last waits =
    last_out truth graph f frame (then_at truth graph frame) (by_last truth graph frame last ∙ ap (λ b. unless_done (also b Done) (then_at truth graph frame)) waits)

there_left : (truth : ConId) (graph : Graph) (f : Found) (frame : Frame) (b : Bool) → is_inside frame.ask ≡ b → Fits truth graph (with_frame f frame) Done
    → frame.node < length graph → marked_need b truth graph frame.node ≡ Done → Fits truth graph (with_mark f b frame.node mark.There) Done
there_left truth graph f frame true is fits below there =
    record {
      whole = λ id here. left_mark (so_far f) false f.frames frame (mark_at f.whole id) (whole_need truth graph id) id
          (λ same regarded. (let no : ⊥ = cc (not_inside (is_inside frame.ask) regarded) in absurd no)) (fits.whole id here);
      inside = λ id here. set_cases f.inside frame.node id mark.There (λ m. MarkFits (so_far f) (is_open true id f.frames) m (inside_need graph id)) tt
          (λ same. subst (λ (x : ℕ). inside_need graph x ≡ Done) (eqb-true frame.node id same) there)
          (λ differs. left_mark (so_far f) true f.frames frame (mark_at f.inside id) (inside_need graph id) id
          (λ same regarded. (let no : ⊥ = cc in absurd no)) (fits.inside id here));
      none = fits.none;
      fit = subst (λ (n : Need). AllFit truth graph (so_far f) f.frames n) (ap (λ c. marked_need c truth graph frame.node) is ∙ there) (fit_prefix truth graph (so_far f) f.frames frame Done fits.fit);
      path = (path_prefix graph f.frames frame fits.path).0;
    }
there_left truth graph f frame false is fits below there =
    record {
      whole = λ id here. set_cases f.whole frame.node id mark.There (λ m. MarkFits (so_far f) (is_open false id f.frames) m (whole_need truth graph id)) tt
          (λ same. subst (λ (x : ℕ). whole_need truth graph x ≡ Done) (eqb-true frame.node id same) there)
          (λ differs. left_mark (so_far f) false f.frames frame (mark_at f.whole id) (whole_need truth graph id) id
          (λ same regarded. (let no : ⊥ = cc in absurd no)) (fits.whole id here));
      inside = λ id here. left_mark (so_far f) true f.frames frame (mark_at f.inside id) (inside_need graph id) id
          (λ same regarded. (let no : ⊥ = cc in absurd no)) (fits.inside id here);
      none = fits.none;
      fit = subst (λ (n : Need). AllFit truth graph (so_far f) f.frames n) (ap (λ c. marked_need c truth graph frame.node) is ∙ there) (fit_prefix truth graph (so_far f) f.frames frame Done fits.fit);
      path = (path_prefix graph f.frames frame fits.path).0;
    }

cost_there : (graph : Graph) (f : Found) (frame : Frame) (b : Bool) → cost graph (with_mark f b frame.node mark.There) < cost graph (with_frame f frame)
unfolding cost frame_cost
cost_there graph f frame true =
    let more = cost_append graph f.frames frame in
    let less = cost_seen graph f.inside frame.node mark.There (λ e. (let no : ⊥ = cc in no)) in
    omega arith
cost_there graph f frame false =
    let more = cost_append graph f.frames frame in
    let less = cost_seen graph f.whole frame.node mark.There (λ e. (let no : ⊥ = cc in no)) in
    omega arith

marks_kept : (graph : Graph) (f : Found) (b : Bool) (id : ℕ) (m : Mark) → Marked graph f → Marked graph (with_mark f b id m)
marks_kept graph f true id m marked = record { whole = marked.whole; inside = length-set f.inside id m ∙ marked.inside }
marks_kept graph f false id m marked = record { whole = length-set f.whole id m ∙ marked.whole; inside = marked.inside }

same_outcome : (truth : ConId) (graph : Graph) (f : Found) (b : Bool) (id : ℕ) (m : Mark) (n : Need) → outcome truth graph (with_mark f b id m) n ≡ outcome truth graph f n
unfolding outcome
same_outcome truth graph f true id m n = refl
same_outcome truth graph f false id m n = refl

goes_there : (truth : ConId) (graph : Graph) (f : Found) (frame : Frame) → Fits truth graph (with_frame f frame) Done
    → frame.next ≡ length (looked_at graph frame.node) → frame.waits ≡ false → then_at truth graph frame ≡ Done
    → Goes truth graph (with_frame f frame) (with_mark f (is_inside frame.ask) frame.node mark.There)
goes_there truth graph f frame fits last waits done =
    let here : FrameFits truth graph (so_far f) frame Done = fit_last truth graph (so_far f) f.frames frame Done fits.fit in
    record {
      fits = there_left truth graph f frame (is_inside frame.ask) refl fits here.there (none_waits truth graph (so_far f) frame here last waits ∙ done);
      outcome = same_outcome truth graph f (is_inside frame.ask) frame.node mark.There Done
          ∙ sym (none_out truth graph f frame last waits ∙ ap (outcome truth graph f) done);
      marked = λ marked. marks_kept graph f (is_inside frame.ask) frame.node mark.There (record { whole = marked.whole; inside = marked.inside });
      cost = λ marked. cost_there graph f frame (is_inside frame.ask);
    }

again_open : (inside : Bool) (id : ℕ) (frames : List Frame) (frame : Frame) → frame.ask ≡ ask.All
    → is_open inside id (frames ++ fresh frame.node ask.Ground ∷ []) ≡ is_open inside id (frames ++ frame ∷ [])
again_open inside id frames frame is =
    open_append inside id frames (fresh frame.node ask.Ground)
    ∙ ap (λ b. is_open inside id frames || (nat_eq frame.node id && b)) (same inside ∙ ap (regards inside) (sym is))
    ∙ sym (open_append inside id frames frame)
  where
    same : (inside : Bool) → regards inside ask.Ground ≡ regards inside ask.All
    same true = refl
    same false = refl

cost_again : (graph : Graph) (f : Found) (frame : Frame) → frame.ask ≡ ask.All → frame.next ≡ length (looked_at graph frame.node)
    → cost graph (with_frame f (fresh frame.node ask.Ground)) < cost graph (with_frame f frame)
unfolding cost frame_cost
cost_again graph f frame is last =
    let old = cost_append graph f.frames frame in
    let new = cost_append graph f.frames (fresh frame.node ask.Ground) in
    let again : again_cost frame.ask (length (looked_at graph frame.node)) ≡ length (looked_at graph frame.node) + 1 =
    ap (λ a. again_cost a (length (looked_at graph frame.node))) is in
    omega arith

goes_again : (truth : ConId) (graph : Graph) (f : Found) (frame : Frame) → Fits truth graph (with_frame f frame) Done
    → frame.next ≡ length (looked_at graph frame.node) → frame.waits ≡ false → frame.ask ≡ ask.All
    → then_at truth graph frame ≡ entered truth graph frame.node ask.Ground
    → Goes truth graph (with_frame f frame) (with_frame f (fresh frame.node ask.Ground))
goes_again truth graph f frame fits last waits is then =
    let here : FrameFits truth graph (so_far f) frame Done = fit_last truth graph (so_far f) f.frames frame Done fits.fit in
    let inside : is_inside frame.ask ≡ false = ap is_inside is in
    let needs : marked_need false truth graph frame.node ≡ entered truth graph frame.node ask.Ground =
    ap (λ b. marked_need b truth graph frame.node) (sym inside) ∙ none_waits truth graph (so_far f) frame here last waits ∙ then in
    let path = path_prefix graph f.frames frame fits.path in
    record {
      fits = record {
        whole = λ id below. mark_shut (so_far f) (is_open false id (f.frames ++ frame ∷ [])) (is_open false id (f.frames ++ fresh frame.node ask.Ground ∷ [])) (mark_at f.whole id)
            (whole_need truth graph id) (λ shut. sym (again_open false id f.frames frame is) ∙ shut) (fits.whole id below);
        inside = λ id below. mark_shut (so_far f) (is_open true id (f.frames ++ frame ∷ [])) (is_open true id (f.frames ++ fresh frame.node ask.Ground ∷ [])) (mark_at f.inside id)
            (inside_need graph id) (λ shut. sym (again_open true id f.frames frame is) ∙ shut) (fits.inside id below);
        none = fits.none;
        fit = fit_push truth graph (so_far f) f.frames (fresh frame.node ask.Ground) Done
            (subst (λ (b : Bool). AllFit truth graph (so_far f) f.frames (marked_need b truth graph frame.node)) inside (fit_prefix truth graph (so_far f) f.frames frame Done fits.fit))
            (fresh_fits truth graph (so_far f) frame.node ask.Ground here.there needs);
        path = path_push graph f.frames (fresh frame.node ask.Ground) path.0 path.1;
      };
      outcome = last_out truth graph f (fresh frame.node ask.Ground) (entered truth graph frame.node ask.Ground) (by_fresh truth graph frame.node ask.Ground)
          ∙ sym (none_out truth graph f frame last waits ∙ ap (outcome truth graph f) then);
      marked = λ marked. record { whole = marked.whole; inside = marked.inside };
      cost = λ marked. cost_again graph f frame is last;
    }

-- ---- by kinds

pub then_answers : (truth : ConId) (graph : Graph) (id : ℕ) (k : Kind) (a : Ask) (args : List ℕ) (n : Need) → Some n ≡ left_need id k a → then_needed truth graph id k a args ≡ At id × (n ≡ At id)
then_answers truth graph id (kind.Cons c) a args n is = let no : ⊥ = cc in absurd no
then_answers truth graph id (kind.Part h) a args n is = let no : ⊥ = cc in absurd no
then_answers truth graph id (kind.SetCall g) ask.All args n is = let no : ⊥ = cc in absurd no
then_answers truth graph id _ a args n is = (refl, cc)

goes_by : (truth : ConId) (graph : Graph) (f : Found) (frame : Frame) (k : Kind) (a : Ask) → Fits truth graph (with_frame f frame) Done
    → frame.next ≡ length (looked_at graph frame.node) → frame.waits ≡ false → (node_at graph frame.node).kind ≡ k → frame.ask ≡ a → left_need frame.node k a ≡ None
    → Goes truth graph (with_frame f frame) (left_there f frame k a)
unfolding entered
goes_by truth graph f frame (kind.Cons c) a fits last waits kinds asks none =
    subst (λ (x : Ask). Goes truth graph (with_frame f frame) (with_mark f (is_inside x) frame.node mark.There)) asks
    (goes_there truth graph f frame fits last waits (ap (λ k. then_needed truth graph frame.node k frame.ask (node_at graph frame.node).args) kinds))
goes_by truth graph f frame (kind.Part h) a fits last waits kinds asks none =
    subst (λ (x : Ask). Goes truth graph (with_frame f frame) (with_mark f (is_inside x) frame.node mark.There)) asks
    (goes_there truth graph f frame fits last waits (ap (λ k. then_needed truth graph frame.node k frame.ask (node_at graph frame.node).args) kinds))
goes_by truth graph f frame (kind.SetCall g) ask.All fits last waits kinds asks none =
    goes_again truth graph f frame fits last waits asks (
    ap (λ k. then_needed truth graph frame.node k frame.ask (node_at graph frame.node).args) kinds
    ∙ ap (λ a. then_needed truth graph frame.node (kind.SetCall g) a (node_at graph frame.node).args) asks
    ∙ sym (ap (λ k. entered_as truth graph frame.node ask.Ground k (node_at graph frame.node).args) kinds))
goes_by truth graph f frame _ a fits last waits kinds asks none = let no : ⊥ = cc in absurd no

left_goes_as : (truth : ConId) (graph : Graph) (f : Found) (frame : Frame) (waits : Bool) → frame.waits ≡ waits → Fits truth graph (with_frame f frame) Done
    → frame.next ≡ length (looked_at graph frame.node) → left_answer frame (node_at graph frame.node).kind waits ≡ None
    → Goes truth graph (with_frame f frame) (left f frame (node_at graph frame.node).kind waits)
left_goes_as truth graph f frame true is fits last none = goes_waiting truth graph f frame fits last is
left_goes_as truth graph f frame false is fits last none = goes_by truth graph f frame (node_at graph frame.node).kind frame.ask fits last is refl refl none

pub left_goes : (truth : ConId) (graph : Graph) (f : Found) (frame : Frame) → Fits truth graph (with_frame f frame) Done
    → frame.next ≡ length (looked_at graph frame.node) → left_answer frame (node_at graph frame.node).kind frame.waits ≡ None
    → Goes truth graph (with_frame f frame) (left f frame (node_at graph frame.node).kind frame.waits)
left_goes truth graph f frame fits last none = left_goes_as truth graph f frame frame.waits refl fits last none

left_answers_as : (truth : ConId) (graph : Graph) (f : Found) (frame : Frame) (waits : Bool) (n : Need) → frame.waits ≡ waits
    → frame.next ≡ length (looked_at graph frame.node) → Some n ≡ left_answer frame (node_at graph frame.node).kind waits
    → n ≡ outcome truth graph (with_frame f frame) Done
left_answers_as truth graph f frame true n is last answers = let no : ⊥ = cc in absurd no
left_answers_as truth graph f frame false n is last answers =
    let at = then_answers truth graph frame.node (node_at graph frame.node).kind frame.ask (node_at graph frame.node).args n answers in
    at.1 ∙ sym (none_out truth graph f frame last is ∙ ap (outcome truth graph f) at.0 ∙ outcome_at truth graph f frame.node)

pub left_answers : (truth : ConId) (graph : Graph) (f : Found) (frame : Frame) (n : Need) → frame.next ≡ length (looked_at graph frame.node)
    → Some n ≡ left_answer frame (node_at graph frame.node).kind frame.waits → n ≡ outcome truth graph (with_frame f frame) Done
left_answers truth graph f frame n last answers = left_answers_as truth graph f frame frame.waits n refl last answers
