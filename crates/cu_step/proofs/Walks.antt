-- Each step of the walk keeps what was found right, and what comes out.
use Rattle.std.proofs.Common.{◌≡◌, ℕ, zero, suc, ◌+◌, ◌*◌, ◌<◌, ◌≤◌, Bool, true, false, not, ◌&&◌, ◌||◌, List, [], ◌∷◌, ◌++◌, refl, ap, sym, ◌∙◌, subst, length, set, nat_eq, arith, eq-eqb, eqb-true}
use Rattle.std.proofs.lemmas.List.{length-set}
use Rattle.cu_calculus.specs.declared.ConId.{ConId}
use Rattle.cu_machine.specs.declared.Kind.{Kind}
use Rattle.cu_machine.specs.declared.Kind.TheVariants as kind
use Rattle.cu_machine.specs.Graph.{Graph, node_at}
use Rattle.cu_machine.specs.Need.{Need, Done, Wait, before}
use Rattle.cu_machine.specs.Places.{joined}
use Rattle.cu_step.specs.declared.need.Ask.{Ask}
use Rattle.cu_step.specs.declared.need.Ask.TheVariants as ask
use Rattle.cu_step.specs.declared.need.Frame.{Frame}
use Rattle.cu_step.specs.declared.need.Mark.{Mark}
use Rattle.cu_step.specs.declared.need.Mark.TheVariants as mark
use Rattle.cu_step.specs.Inside.Walk.{AllFit, Fits, Found, FrameFits, Marked, IsBelow, MarkFits, Waited, again_cost, asked_of, cost, entered, flagged, frame_cost, fresh, inside_need, is_inside, is_open, looked_at, mark_at, mark_of, marked_need, needed_by, needed_outside, outcome, regards, so_far, unseen_cost, waited, waited_for, whole_need, with_frame, with_mark}
use Rattle.cu_step.proofs.Frames.{cost_append, cost_flagged, fit_push, fit_waits, flagged_out, open_append, open_flagged, outside_append, wait_out}
use Rattle.cu_step.proofs.Marks.{known_told, mark_later, mark_shut, free_told, or_left, path_flagged, path_push, set_cases, stuck_told}

-- ---- the innermost node waits

pub waits_fit : (truth : ConId) (graph : Graph) (f : Found) (n : Need) (xs ids : List ℕ) → Fits truth graph f n → n ≡ Wait xs → Wait ids ≡ before (so_far f) n
    → Fits truth graph (record f { frames = flagged f.frames; waits = true; ids = ids }) Done
waits_fit truth graph f n xs ids fits is now = record {
  whole = λ id below.
      subst (λ (a : Need). MarkFits a (is_open false id (flagged f.frames)) (mark_at f.whole id) (whole_need truth graph id)) (sym now)
      (mark_later (so_far f) n (is_open false id f.frames) (is_open false id (flagged f.frames)) (mark_at f.whole id) (whole_need truth graph id)
      (λ shut. sym (open_flagged false id f.frames) ∙ shut) (fits.whole id below));
  inside = λ id below.
      subst (λ (a : Need). MarkFits a (is_open true id (flagged f.frames)) (mark_at f.inside id) (inside_need graph id)) (sym now)
      (mark_later (so_far f) n (is_open true id f.frames) (is_open true id (flagged f.frames)) (mark_at f.inside id) (inside_need graph id)
      (λ shut. sym (open_flagged true id f.frames) ∙ shut) (fits.inside id below));
  none = λ no. (let never : ⊥ = cc in absurd never);
  fit = subst (λ (a : Need). AllFit truth graph a (flagged f.frames) Done) (sym now) (fit_waits truth graph (so_far f) f.frames n xs is fits.fit);
  path = path_flagged graph f.frames fits.path;
}

pub waits_outcome : (truth : ConId) (graph : Graph) (f : Found) (n : Need) (xs ids : List ℕ) (inside : List Mark) → n ≡ Wait xs → Wait ids ≡ before (so_far f) n
    → outcome truth graph (record { frames = flagged f.frames; whole = f.whole; inside = inside; waits = true; ids = ids }) Done ≡ outcome truth graph f n
unfolding outcome
waits_outcome truth graph f n xs ids inside is now =
    sym (
    ap (λ m. before (so_far f) (needed_outside truth graph f.frames m)) is
    ∙ wait_out truth graph (so_far f) f.frames xs
    ∙ ap (λ a. before a (needed_outside truth graph f.frames (Wait []))) (ap (before (so_far f)) (sym is) ∙ sym now)
    ∙ flagged_out truth graph ids f.frames)

-- what a look shows is met
pub record Met (truth : ConId) (graph : Graph) (old new : Found) (n : Need) : Type 0 where
  pub fits : Fits truth graph new Done
  pub comes : outcome truth graph new Done ≡ outcome truth graph old n
  pub keeps : Marked graph old → Marked graph new
  pub takes : Marked graph old → cost graph new ≤ cost graph old

cost_waits : (graph : Graph) (f : Found) → cost graph (waited f) ≤ cost graph f
unfolding cost
cost_waits graph f = let same = cost_flagged graph f.frames in omega arith

pub met_wait : (truth : ConId) (graph : Graph) (f : Found) (n : Need) (xs : List ℕ) → Fits truth graph f n → n ≡ Wait xs → Wait f.ids ≡ before (so_far f) n
    → Met truth graph f (waited f) n
met_wait truth graph f n xs fits is now = record {
  fits = waits_fit truth graph f n xs f.ids fits is now;
  comes = waits_outcome truth graph f n xs f.ids f.inside is now;
  keeps = λ marked. record { whole = marked.whole; inside = marked.inside };
  takes = λ marked. cost_waits graph f;
}

pub met_known : (truth : ConId) (graph : Graph) (f : Found) (n : Need) → Fits truth graph f n → Waited (so_far f) n → Met truth graph f (waited f) n
met_known truth graph f n fits known = met_wait truth graph f n known.ids fits known.is (known_told f.waits f.ids n known)

pub met_stuck : (truth : ConId) (graph : Graph) (f : Found) → Fits truth graph f (Wait []) → Met truth graph f (waited f) (Wait [])
met_stuck truth graph f fits = met_wait truth graph f (Wait []) [] fits refl (stuck_told f.waits f.ids fits.none)

-- ---- a variable is waited for

cost_free : (graph : Graph) (f : Found) (id : ℕ) → cost graph (waited_for f id) ≤ cost graph f
unfolding cost
cost_free graph f id = let same = cost_flagged graph f.frames in omega arith

pub met_free : (truth : ConId) (graph : Graph) (f : Found) (id : ℕ) → Fits truth graph f (Wait (id ∷ [])) → Met truth graph f (waited_for f id) (Wait (id ∷ []))
met_free truth graph f id fits =
    let now : Wait (joined f.ids (id ∷ [])) ≡ before (so_far f) (Wait (id ∷ [])) = free_told f.waits f.ids id fits.none in
    record {
      fits = waits_fit truth graph f (Wait (id ∷ [])) (id ∷ []) (joined f.ids (id ∷ [])) fits refl now;
      comes = waits_outcome truth graph f (Wait (id ∷ [])) (id ∷ []) (joined f.ids (id ∷ [])) f.inside refl now;
      keeps = λ marked. record { whole = marked.whole; inside = marked.inside };
      takes = λ marked. cost_free graph f id;
    }

-- ---- a node is entered

pub cost_seen : (graph : Graph) (marks : List Mark) (id : ℕ) (m : Mark) → (m ≡ mark.Unseen → ⊥) → unseen_cost graph (set marks id m) ≤ unseen_cost graph marks
unfolding unseen_cost
cost_seen [] marks id m seen = omega arith
cost_seen (node ∷ graph) [] id m seen = omega arith
cost_seen (node ∷ graph) (mark.Unseen ∷ marks) zero mark.Unseen seen = absurd (seen refl)
cost_seen (node ∷ graph) (mark.Unseen ∷ marks) zero mark.There seen = omega arith
cost_seen (node ∷ graph) (mark.Unseen ∷ marks) zero mark.Waits seen = omega arith
cost_seen (node ∷ graph) (mark.There ∷ marks) zero mark.Unseen seen = absurd (seen refl)
cost_seen (node ∷ graph) (mark.There ∷ marks) zero mark.There seen = omega arith
cost_seen (node ∷ graph) (mark.There ∷ marks) zero mark.Waits seen = omega arith
cost_seen (node ∷ graph) (mark.Waits ∷ marks) zero mark.Unseen seen = absurd (seen refl)
cost_seen (node ∷ graph) (mark.Waits ∷ marks) zero mark.There seen = omega arith
cost_seen (node ∷ graph) (mark.Waits ∷ marks) zero mark.Waits seen = omega arith
cost_seen (node ∷ graph) (mark.Unseen ∷ marks) (suc id) m seen = let rest = cost_seen graph marks id m seen in omega arith
cost_seen (node ∷ graph) (mark.There ∷ marks) (suc id) m seen = cost_seen graph marks id m seen
cost_seen (node ∷ graph) (mark.Waits ∷ marks) (suc id) m seen = cost_seen graph marks id m seen

waits_seen : mark.Waits ≡ mark.Unseen → ⊥
waits_seen e = cc

cost_enters : (graph : Graph) (marks : List Mark) (id : ℕ) → id < length graph → length marks ≡ length graph → mark_at marks id ≡ mark.Unseen
    → unseen_cost graph (set marks id mark.Waits) + (2 * length (node_at graph id).args + 3) ≡ unseen_cost graph marks
unfolding unseen_cost
cost_enters [] marks id below same unseen = let no : ⊥ = omega arith in absurd no
cost_enters (node ∷ graph) [] id below same unseen = let no : ⊥ = omega arith in absurd no
cost_enters (node ∷ graph) (mark.Unseen ∷ marks) zero below same unseen = omega arith
cost_enters (node ∷ graph) (mark.There ∷ marks) zero below same unseen = let no : ⊥ = cc in absurd no
cost_enters (node ∷ graph) (mark.Waits ∷ marks) zero below same unseen = let no : ⊥ = cc in absurd no
cost_enters (node ∷ graph) (mark.Unseen ∷ marks) (suc id) below same unseen =
    let rest = cost_enters graph marks id (omega arith) (omega arith) unseen in omega arith
cost_enters (node ∷ graph) (mark.There ∷ marks) (suc id) below same unseen = cost_enters graph marks id (omega arith) (omega arith) unseen
cost_enters (node ∷ graph) (mark.Waits ∷ marks) (suc id) below same unseen = cost_enters graph marks id (omega arith) (omega arith) unseen

asked_fewer : (k : Kind) (args : List ℕ) → length (asked_of k args) ≤ length args
asked_fewer kind.Apply [] = omega arith
asked_fewer kind.Apply (x ∷ args) = omega arith
asked_fewer (kind.Case mode e) [] = omega arith
asked_fewer (kind.Case mode e) (x ∷ args) = omega arith
asked_fewer _ args = omega arith

again_little : (a : Ask) (n : ℕ) → again_cost a n ≤ n + 1
again_little ask.All n = omega arith
again_little _ n = omega arith

cost_fresh : (graph : Graph) (id : ℕ) (a : Ask) → frame_cost graph (fresh id a) ≤ 2 * length (node_at graph id).args + 2
unfolding frame_cost
cost_fresh graph id a =
    let few = asked_fewer (node_at graph id).kind (node_at graph id).args in
    let little = again_little a (length (looked_at graph id)) in
    omega arith

pub by_fresh : (truth : ConId) (graph : Graph) (id : ℕ) (a : Ask) → needed_by truth graph (fresh id a) Done ≡ entered truth graph id a
unfolding needed_by entered
by_fresh truth graph id a = refl

pub fresh_fits : (truth : ConId) (graph : Graph) (told_so_far : Need) (id : ℕ) (a : Ask) → id < length graph → marked_need (is_inside a) truth graph id ≡ entered truth graph id a
    → FrameFits truth graph told_so_far (fresh id a) Done
fresh_fits truth graph told_so_far id a below needs = record { there = below; next = omega arith; needs = needs; earlier = Done; seen = refl; is = refl }

and_true : (a b : Bool) → a ≡ true → b ≡ true → (a && b) ≡ true
and_true a b p q = rw (p, q) refl

-- the node that was entered is open
entered_open : (inside : Bool) (id : ℕ) (a : Ask) (frames : List Frame) → regards inside a ≡ true → is_open inside id (frames ++ fresh id a ∷ []) ≡ true
entered_open inside id a frames is =
    open_append inside id frames (fresh id a) ∙ or_right (is_open inside id frames) (nat_eq id id && regards inside a) (and_true (nat_eq id id) (regards inside a) (eq-eqb id id refl) is)
  where
    or_right : (x y : Bool) → y ≡ true → (x || y) ≡ true
    or_right true y p = refl
    or_right false y p = p

pub prefix_shut : (inside : Bool) (id : ℕ) (frames : List Frame) (frame : Frame) → is_open inside id (frames ++ frame ∷ []) ≡ false → is_open inside id frames ≡ false
prefix_shut inside id frames frame shut = or_left (is_open inside id frames) (nat_eq frame.node id && regards inside frame.ask) (sym (open_append inside id frames frame) ∙ shut)

pub mark_open : (told_so_far : Need) (is : Bool) (n : Need) → is ≡ true → MarkFits told_so_far is mark.Waits n
mark_open told_so_far is n opened = λ shut. (let no : ⊥ = cc in absurd no)

-- marks with the one of a node that is entered
entered_marks : (told_so_far : Need) (inside : Bool) (frames : List Frame) (id : ℕ) (a : Ask) (marks : List Mark) (n : ℕ → Need) → regards inside a ≡ true
    → (other : ℕ) → MarkFits told_so_far (is_open inside other frames) (mark_at marks other) (n other)
    → MarkFits told_so_far (is_open inside other (frames ++ fresh id a ∷ [])) (mark_at (set marks id mark.Waits) other) (n other)
entered_marks told_so_far inside frames id a marks n regarded other fits =
    set_cases marks id other mark.Waits (λ m. MarkFits told_so_far (is_open inside other (frames ++ fresh id a ∷ [])) m (n other)) tt
    (λ same. mark_open told_so_far (is_open inside other (frames ++ fresh id a ∷ [])) (n other)
    (subst (λ (x : ℕ). is_open inside x (frames ++ fresh id a ∷ []) ≡ true) (eqb-true id other same) (entered_open inside id a frames regarded)))
    (λ differs. mark_shut told_so_far (is_open inside other frames) (is_open inside other (frames ++ fresh id a ∷ [])) (mark_at marks other) (n other)
    (prefix_shut inside other frames (fresh id a)) fits)

pub other_marks : (told_so_far : Need) (inside : Bool) (frames : List Frame) (frame : Frame) (m : Mark) (n : Need) (other : ℕ)
    → MarkFits told_so_far (is_open inside other frames) m n → MarkFits told_so_far (is_open inside other (frames ++ frame ∷ [])) m n
other_marks told_so_far inside frames frame m n other fits =
    mark_shut told_so_far (is_open inside other frames) (is_open inside other (frames ++ frame ∷ [])) m n (prefix_shut inside other frames frame) fits

pub regards_inside : (a : Ask) → is_inside a ≡ true → regards true a ≡ true
regards_inside a is = is

pub regards_whole : (a : Ask) → is_inside a ≡ false → regards false a ≡ true
regards_whole a is = ap not is

outcome_enters : (truth : ConId) (graph : Graph) (f g : Found) (id : ℕ) (a : Ask) → so_far g ≡ so_far f → g.frames ≡ f.frames ++ fresh id a ∷ []
    → outcome truth graph g Done ≡ outcome truth graph f (entered truth graph id a)
unfolding outcome
outcome_enters truth graph f g id a same frames =
    ap (λ t. before t (needed_outside truth graph g.frames Done)) same
    ∙ ap (λ fs. before (so_far f) (needed_outside truth graph fs Done)) frames
    ∙ ap (before (so_far f)) (outside_append truth graph f.frames (fresh id a) Done ∙ ap (needed_outside truth graph f.frames) (by_fresh truth graph id a))

pub met_enter : (truth : ConId) (graph : Graph) (f : Found) (id : ℕ) (a : Ask) (b : Bool) → is_inside a ≡ b → Fits truth graph f (entered truth graph id a)
    → id < length graph → marked_need (is_inside a) truth graph id ≡ entered truth graph id a → IsBelow graph id f.frames → mark_of f b id ≡ mark.Unseen
    → Met truth graph f (with_frame (with_mark f b id mark.Waits) (fresh id a)) (entered truth graph id a)
unfolding cost
met_enter truth graph f id a true is fits below needs lower unseen =
    let more = cost_append graph f.frames (fresh id a) in
    let little = cost_fresh graph id a in
    record {
      fits = record {
        whole = λ other here. other_marks (so_far f) false f.frames (fresh id a) (mark_at f.whole other) (whole_need truth graph other) other (fits.whole other here);
        inside = λ other here. entered_marks (so_far f) true f.frames id a f.inside (inside_need graph) (regards_inside a is) other (fits.inside other here);
        none = fits.none;
        fit = fit_push truth graph (so_far f) f.frames (fresh id a) Done
            (subst (λ (n : Need). AllFit truth graph (so_far f) f.frames n) (sym needs) fits.fit) (fresh_fits truth graph (so_far f) id a below needs);
        path = path_push graph f.frames (fresh id a) fits.path lower;
      };
      comes = outcome_enters truth graph f (with_frame (with_mark f true id mark.Waits) (fresh id a)) id a refl refl;
      keeps = λ marked. record { whole = marked.whole; inside = length-set f.inside id mark.Waits ∙ marked.inside };
      takes = λ marked. (let pays = cost_enters graph f.inside id below marked.inside unseen in omega arith);
    }
met_enter truth graph f id a false is fits below needs lower unseen =
    let more = cost_append graph f.frames (fresh id a) in
    let little = cost_fresh graph id a in
    record {
      fits = record {
        whole = λ other here. entered_marks (so_far f) false f.frames id a f.whole (whole_need truth graph) (regards_whole a is) other (fits.whole other here);
        inside = λ other here. other_marks (so_far f) true f.frames (fresh id a) (mark_at f.inside other) (inside_need graph other) other (fits.inside other here);
        none = fits.none;
        fit = fit_push truth graph (so_far f) f.frames (fresh id a) Done
            (subst (λ (n : Need). AllFit truth graph (so_far f) f.frames n) (sym needs) fits.fit) (fresh_fits truth graph (so_far f) id a below needs);
        path = path_push graph f.frames (fresh id a) fits.path lower;
      };
      comes = outcome_enters truth graph f (with_frame (with_mark f false id mark.Waits) (fresh id a)) id a refl refl;
      keeps = λ marked. record { whole = length-set f.whole id mark.Waits ∙ marked.whole; inside = marked.inside };
      takes = λ marked. (let pays = cost_enters graph f.whole id below marked.whole unseen in omega arith);
    }
