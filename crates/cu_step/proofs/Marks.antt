-- Marks, what was told, and paths.
use Rattle.std.proofs.Common.{◌≡◌, ◌≢◌, ℕ, ◌<◌, ◌≤◌, Bool, true, false, ◌&&◌, ◌||◌, List, [], ◌∷◌, ◌++◌, inl, inr, refl, ap, sym, subst, length, set, nat_eq, arith, eq-eqb, eqb-true, get_or-set_other, get_or-set_same}
use Rattle.std.proofs.lemmas.Bool.{cases_lt}
use Rattle.std.proofs.lemmas.List.{get_or_past, length-set}
use Rattle.cu_machine.specs.Graph.{Graph}
use Rattle.cu_machine.specs.Need.{Need, Done, Wait, before}
use Rattle.cu_machine.specs.Places.{joined}
use Rattle.cu_step.specs.declared.need.Frame.{Frame}
use Rattle.cu_step.specs.declared.need.Mark.{Mark}
use Rattle.cu_step.specs.declared.need.Mark.TheVariants as mark
use Rattle.cu_step.specs.Inside.Walk.{IsAbove, IsBelow, IsPath, MarkFits, Waited, flagged, height, is_open, mark_at, regards, told}
use Rattle.cu_step.proofs.Needs.{none_joined, waited_later}

-- ---- marks

pub or_left : (a b : Bool) → (a || b) ≡ false → a ≡ false
or_left true b none = none
or_left false b none = refl

pub mark_later : (told_so_far more : Need) (was is : Bool) (m : Mark) (n : Need) → (is ≡ false → was ≡ false)
    → MarkFits told_so_far was m n → MarkFits (before told_so_far more) is m n
mark_later told_so_far more was is mark.Unseen n closed fits = tt
mark_later told_so_far more was is mark.There n closed fits = fits
mark_later told_so_far more was is mark.Waits n closed fits = λ shut. waited_later told_so_far n more (fits (closed shut))

pub mark_shut : (told_so_far : Need) (was is : Bool) (m : Mark) (n : Need) → (is ≡ false → was ≡ false) → MarkFits told_so_far was m n → MarkFits told_so_far is m n
mark_shut told_so_far was is mark.Unseen n closed fits = tt
mark_shut told_so_far was is mark.There n closed fits = fits
mark_shut told_so_far was is mark.Waits n closed fits = λ shut. fits (closed shut)

-- a mark that is another: at its place, and elsewhere; where no marks are kept, none is seen
pub set_cases : (marks : List Mark) (id other : ℕ) (m : Mark) (P : Mark → Type 0) → P mark.Unseen → (nat_eq id other ≡ true → P m)
    → (nat_eq id other ≡ false → P (mark_at marks other)) → P (mark_at (set marks id m) other)
set_cases marks id other m P none here elsewhere = go (nat_eq id other) refl
  where
    go : (b : Bool) → nat_eq id other ≡ b → P (mark_at (set marks id m) other)
    go true is =
        subst (λ (x : ℕ). P (mark_at (set marks id m) x)) (eqb-true id other is)
        (elim (cases_lt id (length marks)) [
          | inl within ↦ subst P (sym (get_or-set_same marks id m mark.Unseen within)) (here is)
          | inr past ↦ subst P (sym (get_or_past (set marks id m) id mark.Unseen (let same = length-set marks id m in omega arith))) none
        ])
    go false is =
        let differs : other ≢ id = λ same. (let no : ⊥ = cc (eq-eqb id other (sym same)) in no) in
        subst P (sym (get_or-set_other marks id other m mark.Unseen differs)) (elsewhere is)

-- ---- what was told

pub stuck_told : (waits : Bool) (ids : List ℕ) → (waits ≡ false → ids ≡ []) → Wait ids ≡ before (told waits ids) (Wait [])
stuck_told false ids none = ap Wait (none refl)
stuck_told true ids none = ap Wait (sym (none_joined ids))

pub known_told : (waits : Bool) (ids : List ℕ) (n : Need) → Waited (told waits ids) n → Wait ids ≡ before (told waits ids) n
known_told false ids n known = let no : ⊥ = clash n known.ids known.is known.known in absurd no
  where
    clash : (n : Need) (xs : List ℕ) → n ≡ Wait xs → before Done n ≡ Done → ⊥
    clash n xs p q = cc
known_told true ids n known = sym known.known

-- a variable is waited for
pub free_told : (waits : Bool) (ids : List ℕ) (id : ℕ) → (waits ≡ false → ids ≡ []) → Wait (joined ids (id ∷ [])) ≡ before (told waits ids) (Wait (id ∷ []))
free_told false ids id none = ap (λ xs. Wait (joined xs (id ∷ []))) (none refl)
free_told true ids id none = refl

-- ---- paths

pub path_flagged : (graph : Graph) (frames : List Frame) → IsPath graph frames → IsPath graph (flagged frames)
unfolding IsPath IsAbove flagged
path_flagged graph [] path = tt
path_flagged graph (x ∷ []) path = path
path_flagged graph (x ∷ y ∷ frames) path = (above_flagged x.node (y ∷ frames) path.0, path_flagged graph (y ∷ frames) path.1)
  where
    above_flagged : (id : ℕ) (frames : List Frame) → IsAbove graph id frames → IsAbove graph id (flagged frames)
    above_flagged id [] above = tt
    above_flagged id (x ∷ []) above = above
    above_flagged id (x ∷ y ∷ frames) above = (above.0, above_flagged id (y ∷ frames) above.1)

pub above_push : (graph : Graph) (id : ℕ) (frames : List Frame) (frame : Frame) → IsAbove graph id frames → height graph frame.node < height graph id → IsAbove graph id (frames ++ frame ∷ [])
unfolding IsAbove
above_push graph id [] frame above less = (less, tt)
above_push graph id (x ∷ frames) frame above less = (above.0, above_push graph id frames frame above.1 less)

pub path_push : (graph : Graph) (frames : List Frame) (frame : Frame) → IsPath graph frames → IsBelow graph frame.node frames → IsPath graph (frames ++ frame ∷ [])
unfolding IsPath IsAbove IsBelow
path_push graph [] frame path below = (tt, tt)
path_push graph (x ∷ frames) frame path below = (above_push graph x.node frames frame path.0 below.0, path_push graph frames frame path.1 below.1)

pub above_prefix : (graph : Graph) (id : ℕ) (frames : List Frame) (frame : Frame) → IsAbove graph id (frames ++ frame ∷ []) → IsAbove graph id frames × (height graph frame.node < height graph id)
unfolding IsAbove
above_prefix graph id [] frame above = (tt, above.0)
above_prefix graph id (x ∷ frames) frame above = let rest = above_prefix graph id frames frame above.1 in ((above.0, rest.0), rest.1)

pub path_prefix : (graph : Graph) (frames : List Frame) (frame : Frame) → IsPath graph (frames ++ frame ∷ []) → IsPath graph frames × IsBelow graph frame.node frames
unfolding IsPath IsAbove IsBelow
path_prefix graph [] frame path = (tt, tt)
path_prefix graph (x ∷ frames) frame path =
    let rest = path_prefix graph frames frame path.1 in
    let above = above_prefix graph x.node frames frame path.0 in
    ((above.0, rest.0), (above.1, rest.1))

pub below_lower : (graph : Graph) (id other : ℕ) (frames : List Frame) → height graph id ≤ height graph other → IsBelow graph other frames → IsBelow graph id frames
unfolding IsBelow
below_lower graph id other [] low below = tt
below_lower graph id other (x ∷ frames) low below = let here = below.0 in (omega arith, below_lower graph id other frames low below.1)

pub below_push : (graph : Graph) (id : ℕ) (frames : List Frame) (frame : Frame) → IsBelow graph id frames → height graph id < height graph frame.node → IsBelow graph id (frames ++ frame ∷ [])
unfolding IsBelow
below_push graph id [] frame below less = (less, tt)
below_push graph id (x ∷ frames) frame below less = (below.0, below_push graph id frames frame below.1 less)

pub shut_unless : (graph : Graph) (inside : Bool) (id : ℕ) (frame : Frame) (others b : Bool) → nat_eq frame.node id ≡ b → height graph id < height graph frame.node → others ≡ false
    → ((b && regards inside frame.ask) || others) ≡ false
shut_unless graph inside id frame others true is less shut =
    let same : height graph frame.node ≡ height graph id = ap (height graph) (eqb-true frame.node id is) in
    absurd (omega arith)
shut_unless graph inside id frame others false is less shut = shut

-- a node below all of them is none of them
pub below_shut : (graph : Graph) (inside : Bool) (id : ℕ) (frames : List Frame) → IsBelow graph id frames → is_open inside id frames ≡ false
unfolding IsBelow is_open
below_shut graph inside id [] below = refl
below_shut graph inside id (x ∷ frames) below =
    shut_unless graph inside id x (is_open inside id frames) (nat_eq x.node id) refl below.0 (below_shut graph inside id frames below.1)
