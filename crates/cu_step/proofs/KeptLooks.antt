-- The frames of a walk stand so that they may be kept, from one look to the next.
use Rattle.std.proofs.Common.{◌≡◌, ℕ, suc, ◌+◌, ◌<◌, Bool, true, false, List, [], ◌∷◌, ◌++◌, Option, None, Some, Result, Ok, Err, IfOk, IfSome, IfNone, OnOk, option_map, if◌then◌else◌, refl, ap, ap₂, sym, ◌∙◌, subst, length, nat_eq, take, arith, eqb-true}
use Rattle.std.proofs.Math.Seq.{take-suc}
use Rattle.std.proofs.lemmas.List.{append_assoc}
use Rattle.std.proofs.lemmas.List.Elements.{All-nil, All-pop, All-push}
use Rattle.std.specs.List.{All}
use Rattle.cu_calculus.specs.declared.ConId.{ConId}
use Rattle.cu_calculus.specs.declared.FunId.{FunId}
use Rattle.cu_machine.specs.declared.Kind.{Kind}
use Rattle.cu_machine.specs.declared.Kind.TheVariants as kind
use Rattle.cu_machine.specs.Graph.{Graph, head_at, head_of, node_at}
use Rattle.cu_machine.specs.Need.{Need, At, Dead, Done, free_at, free_within, waiting}
use Rattle.cu_machine.specs.Validity.{ArgumentsThere, IsAcyclic}
use Rattle.cu_step.specs.declared.need.Ask.{Ask}
use Rattle.cu_step.specs.declared.need.Ask.TheVariants as ask
use Rattle.cu_step.specs.declared.need.Frame.{Frame}
use Rattle.cu_step.specs.declared.need.Look.{Look}
use Rattle.cu_step.specs.declared.need.Look.TheVariants as look
use Rattle.cu_step.specs.declared.need.Mark.{Mark}
use Rattle.cu_step.specs.declared.need.Mark.TheVariants as mark
use Rattle.cu_step.specs.declared.need.Needed.{Needed}
use Rattle.cu_step.specs.Inside.Kept.{AllThere, Ends, EndsAt, IsKept, Leads, Standing, Stands, StandsAt, at_last, inside, last_ask, last_node, none, resumed, without_own}
use Rattle.cu_step.specs.Inside.Needed.{need_of}
use Rattle.cu_step.specs.Inside.Walk.{Fits, Found, FrameFits, IsBelow, LookFits, MarkFits, asked, at_once, entered, entered_at, fresh, height, inside_need, is_inside, is_open, left, left_answer, left_need, left_there, look_inside, look_need, looked, looked_at, mark_at, mark_of, marked_need, met, so_far, then_needed, unseen_all, waited, whole_need, with_frame, with_mark}
use Rattle.cu_step.proofs.Advances.{argument, asked_at, frame_there, further, look_at, within_args}
use Rattle.cu_step.proofs.Frames.{fit_last}
use Rattle.cu_step.proofs.Heights.{argument_there}
use Rattle.cu_step.proofs.Leaves.{none_waits, then_answers}
use Rattle.cu_step.proofs.Looks.{shown_fits, shown_need}
use Rattle.cu_step.proofs.Marks.{path_prefix}
use Rattle.cu_step.proofs.Resumed.{resumed_shown}
use Rattle.cu_step.proofs.KeptFrames.{IsLast, empty, ending, ends, kept_ends, kept_enters, kept_there, last_look, last_own, leads_push}

-- ---- a set function's call

push_some : (xs : List Frame) (x : Frame) → xs ++ x ∷ [] ≡ [] → ⊥
push_some [] x is = cc
push_some (y ∷ xs) x is = cc

push_same : (xs ys : List Frame) (x y : Frame) → xs ++ x ∷ [] ≡ ys ++ y ∷ [] → (xs ≡ ys) × (x ≡ y)
push_same [] [] x y is = (refl, cc)
push_same [] (b ∷ ys) x y is = let rest : ys ++ y ∷ [] ≡ [] = cc in absurd (push_some ys y rest)
push_same (a ∷ xs) [] x y is = let rest : xs ++ x ∷ [] ≡ [] = cc in absurd (push_some xs x rest)
push_same (a ∷ xs) (b ∷ ys) x y is =
    let one : a ≡ b = cc in
    let rest : xs ++ x ∷ [] ≡ ys ++ y ∷ [] = cc in
    let same = push_same xs ys x y rest in
    (ap₂ (λ z zs. z ∷ zs) one same.0, same.1)

-- the frame of a set function's call is among these, and those after it ask for free variables
record InCall (truth : ConId) (graph : Graph) (root : ℕ) (frames : List Frame) : Type 0 where
  rest : List Frame
  call : Frame
  others : List Frame
  is : frames ≡ rest ++ call ∷ others
  asks : call.ask ≡ ask.Ground
  function : FunId
  calls : (node_at graph call.node).kind ≡ kind.SetCall function
  kept : IsKept truth graph root rest call.node
  within : All (λ other. other.ask ≡ ask.Inside) others

in_stands : (truth : ConId) (graph : Graph) (root : ℕ) (frames : List Frame) → InCall truth graph root frames → Standing truth graph root frames
in_stands truth graph root frames call = inside call.rest call.call call.others call.is call.asks call.function call.calls call.kept call.within

in_first : (truth : ConId) (graph : Graph) (root : ℕ) (frames : List Frame) (frame : Frame) (function : FunId) → frame.ask ≡ ask.Ground
    → (node_at graph frame.node).kind ≡ kind.SetCall function → IsKept truth graph root frames frame.node → InCall truth graph root (frames ++ frame ∷ [])
in_first truth graph root frames frame function asks calls kept = record {
  rest = frames;
  call = frame;
  others = [];
  is = refl;
  asks = asks;
  function = function;
  calls = calls;
  kept = kept;
  within = All-nil (λ (other : Frame). other.ask ≡ ask.Inside);
}

in_push : (truth : ConId) (graph : Graph) (root : ℕ) (frames : List Frame) (frame : Frame) → InCall truth graph root frames → frame.ask ≡ ask.Inside
    → InCall truth graph root (frames ++ frame ∷ [])
in_push truth graph root frames frame call asks = record {
  rest = call.rest;
  call = call.call;
  others = call.others ++ frame ∷ [];
  is = ap (λ fs. fs ++ frame ∷ []) call.is ∙ append_assoc call.rest (call.call ∷ call.others) (frame ∷ []);
  asks = call.asks;
  function = call.function;
  calls = call.calls;
  kept = call.kept;
  within = All-push (λ (other : Frame). other.ask ≡ ask.Inside) call.others frame call.within asks;
}

-- how the last frame stands
data LastStands (truth : ConId) (graph : Graph) (root : ℕ) (frames : List Frame) (frame : Frame) : Type 0 where
  at_node : IsKept truth graph root frames frame.node → IsLast truth graph root ask.All frames frame → AllThere truth graph frame → LastStands truth graph root frames frame
  at_call : (function : FunId) → frame.ask ≡ ask.Ground → (node_at graph frame.node).kind ≡ kind.SetCall function → IsKept truth graph root frames frame.node
      → LastStands truth graph root frames frame
  in_call : InCall truth graph root frames → frame.ask ≡ ask.Inside → LastStands truth graph root frames frame

same_last : (truth : ConId) (graph : Graph) (root : ℕ) (frames rest : List Frame) (frame x : Frame) → (frames ≡ rest) × (frame ≡ x)
    → LastStands truth graph root rest x → LastStands truth graph root frames frame
same_last truth graph root frames rest frame x same stands =
    subst (λ (fs : List Frame). LastStands truth graph root fs frame) (sym same.0) (subst (λ (y : Frame). LastStands truth graph root rest y) (sym same.1) stands)

call_stands : (truth : ConId) (graph : Graph) (root : ℕ) (frames rest : List Frame) (frame call : Frame) (others : List Frame) (function : FunId) → frames ++ frame ∷ [] ≡ rest ++ call ∷ others
    → call.ask ≡ ask.Ground → (node_at graph call.node).kind ≡ kind.SetCall function → IsKept truth graph root rest call.node → All (λ other. other.ask ≡ ask.Inside) others
    → LastStands truth graph root frames frame
call_stands truth graph root frames rest frame call others function is asks calls kept within = elim (ending others) [
  | empty alone ↦
      same_last truth graph root frames rest frame call (push_same frames rest frame call (is ∙ ap (λ fs. rest ++ call ∷ fs) alone)) (at_call function asks calls kept)
  | ends front x splits ↦
      let same = push_same frames (rest ++ call ∷ front) frame x (is ∙ ap (λ fs. rest ++ call ∷ fs) splits ∙ sym (append_assoc rest (call ∷ front) (x ∷ []))) in
      let parts = All-pop (λ (other : Frame). other.ask ≡ ask.Inside) others front (Some x) splits within in
      in_call
      (record { rest = rest; call = call; others = front; is = same.0; asks = asks; function = function; calls = calls; kept = kept; within = parts.0 })
      (ap (λ (y : Frame). y.ask) same.1 ∙ parts.1)
]

last_stands : (truth : ConId) (graph : Graph) (root : ℕ) (frames : List Frame) (frame : Frame) → Standing truth graph root (frames ++ frame ∷ []) → LastStands truth graph root frames frame
last_stands truth graph root frames frame stands = elim stands [
  | none is ↦ absurd (push_some frames frame is)
  | at_last rest x is kept looks known ↦ same_last truth graph root frames rest frame x (push_same frames rest frame x is) (at_node kept looks known)
  | inside rest call others is asks function calls kept within ↦ call_stands truth graph root frames rest frame call others function is asks calls kept within
]

-- ---- a look is met

marked_frames : (f : Found) (b : Bool) (id : ℕ) (m : Mark) → (with_mark f b id m).frames ≡ f.frames
marked_frames f true id m = refl
marked_frames f false id m = refl

marked_waits : (f : Found) (b : Bool) (id : ℕ) (m : Mark) → (with_mark f b id m).waits ≡ f.waits
marked_waits f true id m = refl
marked_waits f false id m = refl

entered_waits : (f : Found) (id : ℕ) (a : Ask) (m : Mark) → (entered_at f id a m).waits ≡ false → f.waits ≡ false
entered_waits f id a mark.There quiet = quiet
entered_waits f id a mark.Waits quiet = let no : ⊥ = cc in absurd no
entered_waits f id a mark.Unseen quiet = sym (marked_waits f (is_inside a) id mark.Waits) ∙ quiet

met_waits : (f : Found) (l : Look) → (met f l).waits ≡ false → f.waits ≡ false
met_waits f look.There quiet = quiet
met_waits f look.Stuck quiet = let no : ⊥ = cc in absurd no
met_waits f (look.Free id) quiet = let no : ⊥ = cc in absurd no
met_waits f (look.Node id a) quiet = entered_waits f id a (mark_of f (is_inside a) id) quiet
met_waits f look.Dead quiet = quiet
met_waits f (look.At id) quiet = quiet

-- what the marks say of nodes whose values are there
abbrev MarksTell : ConId → Graph → Found → Type 0
MarksTell truth graph f = (b : Bool) (id : ℕ) → id < length graph → mark_of f b id ≡ mark.There → marked_need b truth graph id ≡ Done

mark_there : (told_so_far : Need) (is_looked_at : Bool) (m : Mark) (n : Need) → m ≡ mark.There → MarkFits told_so_far is_looked_at m n → n ≡ Done
mark_there told_so_far is_looked_at mark.There n is fits = fits
mark_there told_so_far is_looked_at mark.Unseen n is fits = let no : ⊥ = cc in absurd no
mark_there told_so_far is_looked_at mark.Waits n is fits = let no : ⊥ = cc in absurd no

fits_tell : (truth : ConId) (graph : Graph) (f : Found) (frame other : Frame) → Fits truth graph (with_frame f frame) Done → MarksTell truth graph (with_frame f other)
fits_tell truth graph f frame other fits true id below is =
    mark_there (so_far f) (is_open true id (f.frames ++ frame ∷ [])) (mark_at f.inside id) (inside_need graph id) is (fits.inside id below)
fits_tell truth graph f frame other fits false id below is =
    mark_there (so_far f) (is_open false id (f.frames ++ frame ∷ [])) (mark_at f.whole id) (whole_need truth graph id) is (fits.whole id below)

entered_stands : (truth : ConId) (graph : Graph) (root : ℕ) (f : Found) (id : ℕ) (a : Ask) (m : Mark) → (m ≡ mark.There → Standing truth graph root f.frames)
    → Standing truth graph root (f.frames ++ fresh id a ∷ []) → Stands truth graph root (entered_at f id a m)
entered_stands truth graph root f id a mark.There there enters quiet = there refl
entered_stands truth graph root f id a mark.Waits there enters quiet = let no : ⊥ = cc in absurd no
entered_stands truth graph root f id a mark.Unseen there enters quiet =
    subst (λ (fs : List Frame). Standing truth graph root (fs ++ fresh id a ∷ [])) (sym (marked_frames f (is_inside a) id mark.Waits)) enters

met_stands : (truth : ConId) (graph : Graph) (root : ℕ) (f : Found) (top : ℕ) (l : Look) → at_once l ≡ None → (look_need truth graph l ≡ Done → Standing truth graph root f.frames)
    → ((id : ℕ) (a : Ask) → l ≡ look.Node id a → Standing truth graph root (f.frames ++ fresh id a ∷ [])) → MarksTell truth graph f → LookFits truth graph top l
    → Stands truth graph root (met f l)
met_stands truth graph root f top look.There goes there enters tell fits quiet = there refl
met_stands truth graph root f top look.Stuck goes there enters tell fits quiet = let no : ⊥ = cc in absurd no
met_stands truth graph root f top (look.Free id) goes there enters tell fits quiet = let no : ⊥ = cc in absurd no
met_stands truth graph root f top (look.Node id a) goes there enters tell fits quiet =
    entered_stands truth graph root f id a (mark_of f (is_inside a) id) (λ is. there (sym fits.1 ∙ tell (is_inside a) id fits.0 is)) (enters id a refl) quiet
met_stands truth graph root f top look.Dead goes there enters tell fits quiet = let no : ⊥ = cc in absurd no
met_stands truth graph root f top (look.At id) goes there enters tell fits quiet = let no : ⊥ = cc in absurd no

-- a look at the node to which the frames lead
kept_met : (truth : ConId) (graph : Graph) (root : ℕ) (f : Found) (id : ℕ) (l : Look) → ArgumentsThere graph → IsAcyclic graph → id < length graph
    → IsKept truth graph root f.frames id → MarksTell truth graph f → l ≡ resumed_shown truth graph root f.frames id → at_once l ≡ None → Stands truth graph root (met f l)
kept_met truth graph root f id l there acyclic below kept tell is goes =
    met_stands truth graph root f (height graph id) l goes
    (λ known. kept_there truth graph root f.frames id kept
    (shown_need truth graph (last_node root f.frames) (last_ask ask.All f.frames) id there acyclic below ∙ ap (look_need truth graph) (sym is) ∙ known))
    (λ other a shows. kept_enters truth graph root f.frames id other a there acyclic below kept (sym is ∙ shows))
    tell
    (subst (λ (x : Look). LookFits truth graph (height graph id) x) (sym is)
    (shown_fits truth graph (last_node root f.frames) (last_ask ask.All f.frames) id there acyclic below))

inside_asks : (id : ℕ) (k : Kind) (other : ℕ) (a : Ask) → look_inside id k ≡ look.Node other a → a ≡ ask.Inside
inside_asks id (kind.Cons c) other a is = cc
inside_asks id (kind.Part h) other a is = cc
inside_asks id kind.Free other a is = let no : ⊥ = cc in absurd no
inside_asks id _ other a is = let no : ⊥ = cc in absurd no

inside_goes : (id : ℕ) (k : Kind) (other : ℕ) → look_inside id k ≡ look.At other → ⊥
inside_goes id (kind.Cons c) other is = cc
inside_goes id (kind.Part h) other is = cc
inside_goes id kind.Free other is = cc
inside_goes id _ other is = cc

-- a look in a set function's call
call_met : (truth : ConId) (graph : Graph) (root : ℕ) (f : Found) (top id : ℕ) (k : Kind) (l : Look) → InCall truth graph root f.frames → MarksTell truth graph f → LookFits truth graph top l
    → l ≡ look_inside id k → at_once l ≡ None → Stands truth graph root (met f l)
call_met truth graph root f top id k l call tell fits is goes =
    met_stands truth graph root f top l goes
    (λ known. in_stands truth graph root f.frames call)
    (λ other a shows. in_stands truth graph root (f.frames ++ fresh other a ∷ [])
    (in_push truth graph root f.frames (fresh other a) call (inside_asks id k other a (sym is ∙ shows))))
    tell fits

-- where a look answers at once
answered : (truth : ConId) (graph : Graph) (root : ℕ) (f : Found) (l : Look) (n : Need) → at_once l ≡ Some n → ((id : ℕ) → l ≡ look.At id → Ends truth graph root f id)
    → EndsAt truth graph root f n
answered truth graph root f look.Dead n is leads = let same : Dead ≡ n = cc in subst (λ (m : Need). EndsAt truth graph root f m) same tt
answered truth graph root f (look.At id) n is leads = let same : At id ≡ n = cc in subst (λ (m : Need). EndsAt truth graph root f m) same (leads id refl)
answered truth graph root f _ n is leads = let no : ⊥ = cc in absurd no

-- ---- the next argument

further_stands : (truth : ConId) (graph : Graph) (frame : Frame) → frame.next < length (looked_at graph frame.node) → AllThere truth graph frame
    → StandsAt truth graph (further frame) (argument graph frame)
further_stands truth graph frame within known =
    let more : frame.next + 1 ≡ suc frame.next = omega arith in
    record {
      there = known.there;
      next = omega arith;
      waits = known.waits;
      earlier = take frame.next (looked_at graph frame.node);
      splits = ap (λ i. take i (looked_at graph frame.node)) more ∙ take-suc (looked_at graph frame.node) frame.next 0 within
          ∙ ap (λ x. take frame.next (looked_at graph frame.node) ++ x ∷ []) (asked_at (node_at graph frame.node).kind (node_at graph frame.node).args frame.next within);
      known = known.known;
    }

further_kept : (truth : ConId) (graph : Graph) (root : ℕ) (frames : List Frame) (frame : Frame) → frame.next < length (looked_at graph frame.node) → IsKept truth graph root frames frame.node
    → IsLast truth graph root ask.All frames frame → AllThere truth graph frame → IsKept truth graph root (frames ++ further frame ∷ []) (argument graph frame)
further_kept truth graph root frames frame within kept looks known =
    leads_push truth graph root ask.All root frames (further frame) (argument graph frame) (argument graph frame) kept looks (further_stands truth graph frame within known) refl

further_shown : (truth : ConId) (graph : Graph) (root : ℕ) (frames : List Frame) (frame : Frame)
    → look_at truth graph frame (argument graph frame) ≡ resumed_shown truth graph root (frames ++ further frame ∷ []) (argument graph frame)
further_shown truth graph root frames frame =
    sym (last_look truth root ask.All frames (further frame) (head_of graph (argument graph frame)) (head_at graph (argument graph frame)).kind (head_at graph (argument graph frame)).args)

-- a look in a set function's call is one for free variables
call_look : (truth : ConId) (graph : Graph) (frame : Frame) (a : Ask) (l : Look) → l ≡ look_at truth graph frame (argument graph frame) → frame.ask ≡ a
    → l ≡ looked truth frame.node a (head_of graph (argument graph frame)) (head_at graph (argument graph frame)).kind (head_at graph (argument graph frame)).args
call_look truth graph frame a l is asks =
    is ∙ ap (λ b. looked truth frame.node b (head_of graph (argument graph frame)) (head_at graph (argument graph frame)).kind (head_at graph (argument graph frame)).args) asks

next_there : (truth : ConId) (graph : Graph) (f : Found) (frame : Frame) → ArgumentsThere graph → Fits truth graph (with_frame f frame) Done
    → frame.next < length (looked_at graph frame.node) → argument graph frame < length graph
next_there truth graph f frame there fits within =
    argument_there graph frame.node frame.next there (frame_there truth graph f frame fits) (within_args graph frame within)

pub stands_next : (truth : ConId) (graph : Graph) (root : ℕ) (f : Found) (frame : Frame) (l : Look) → ArgumentsThere graph → IsAcyclic graph → Fits truth graph (with_frame f frame) Done
    → frame.next < length (looked_at graph frame.node) → Stands truth graph root (with_frame f frame) → l ≡ look_at truth graph frame (argument graph frame) → at_once l ≡ None
    → Stands truth graph root (met (with_frame f (further frame)) l)
stands_next truth graph root f frame l there acyclic fits within stands is goes quiet =
    let below = next_there truth graph f frame there fits within in
    let tell : MarksTell truth graph (with_frame f (further frame)) = fits_tell truth graph f frame (further frame) fits in
    let shows : LookFits truth graph (height graph (argument graph frame)) l =
    subst (λ (x : Look). LookFits truth graph (height graph (argument graph frame)) x) (sym is)
    (shown_fits truth graph frame.node frame.ask (argument graph frame) there acyclic below) in
    elim (last_stands truth graph root f.frames frame (stands (met_waits (with_frame f (further frame)) l quiet))) [
      | at_node kept looks known ↦
          kept_met truth graph root (with_frame f (further frame)) (argument graph frame) l there acyclic below
          (further_kept truth graph root f.frames frame within kept looks known) tell (is ∙ further_shown truth graph root f.frames frame) goes quiet
      | at_call function asks calls kept ↦
          call_met truth graph root (with_frame f (further frame)) (height graph (argument graph frame)) (head_of graph (argument graph frame)) (head_at graph (argument graph frame)).kind l
          (in_first truth graph root f.frames (further frame) function asks calls kept) tell shows (call_look truth graph frame ask.Ground l is asks) goes quiet
      | in_call call asks ↦
          call_met truth graph root (with_frame f (further frame)) (height graph (argument graph frame)) (head_of graph (argument graph frame)) (head_at graph (argument graph frame)).kind l
          (in_push truth graph root f.frames (further frame) call asks) tell shows (call_look truth graph frame ask.Inside l is asks) goes quiet
    ]

pub ends_next : (truth : ConId) (graph : Graph) (root : ℕ) (f : Found) (frame : Frame) (l : Look) (n : Need) → frame.next < length (looked_at graph frame.node)
    → Stands truth graph root (with_frame f frame) → l ≡ look_at truth graph frame (argument graph frame) → at_once l ≡ Some n
    → EndsAt truth graph root (with_frame f (further frame)) n
ends_next truth graph root f frame l n within stands is answers =
    answered truth graph root (with_frame f (further frame)) l n answers
    (λ id shows quiet.
    elim (last_stands truth graph root f.frames frame (stands quiet)) [
      | at_node kept looks known ↦
          kept_ends truth graph root (f.frames ++ further frame ∷ []) (argument graph frame) id (further_kept truth graph root f.frames frame within kept looks known)
          (sym (is ∙ further_shown truth graph root f.frames frame) ∙ shows)
      | at_call function asks calls kept ↦
          absurd (inside_goes (head_of graph (argument graph frame)) (head_at graph (argument graph frame)).kind id (sym (call_look truth graph frame ask.Ground l is asks) ∙ shows))
      | in_call call asks ↦
          absurd (inside_goes (head_of graph (argument graph frame)) (head_at graph (argument graph frame)).kind id (sym (call_look truth graph frame ask.Inside l is asks) ∙ shows))
    ])

-- ---- a node is left

-- a node that is left, where none of its arguments waits
last_fits : (truth : ConId) (graph : Graph) (f : Found) (frame : Frame) → Fits truth graph (with_frame f frame) Done → FrameFits truth graph (so_far f) frame Done
last_fits truth graph f frame fits = fit_last truth graph (so_far f) f.frames frame Done fits.fit

-- what the node needs then
abbrev then_at : ConId → Graph → Frame → Need
then_at truth graph frame = then_needed truth graph frame.node (node_at graph frame.node).kind frame.ask (node_at graph frame.node).args

left_entered : (truth : ConId) (graph : Graph) (f : Found) (frame : Frame) → Fits truth graph (with_frame f frame) Done → frame.next ≡ length (looked_at graph frame.node) → frame.waits ≡ false
    → entered truth graph frame.node frame.ask ≡ then_at truth graph frame
left_entered truth graph f frame fits last waits =
    let here : FrameFits truth graph (so_far f) frame Done = last_fits truth graph f frame fits in
    sym here.needs ∙ none_waits truth graph (so_far f) frame here last waits

left_known : (truth : ConId) (graph : Graph) (root : ℕ) (f : Found) (frame : Frame) → ArgumentsThere graph → IsAcyclic graph → frame.node < length graph
    → IsLast truth graph root ask.All f.frames frame → entered truth graph frame.node frame.ask ≡ Done
    → asked truth graph (last_ask ask.All f.frames) (last_node root f.frames) frame.node ≡ Done
left_known truth graph root f frame there acyclic below looks done =
    shown_need truth graph (last_node root f.frames) (last_ask ask.All f.frames) frame.node there acyclic below
    ∙ ap (look_need truth graph)
    (ap (λ x. looked truth (last_node root f.frames) (last_ask ask.All f.frames) x (node_at graph x).kind (node_at graph x).args) (last_own truth graph root ask.All f.frames frame looks)
    ∙ looks)
    ∙ done

left_done : (truth : ConId) (graph : Graph) (root : ℕ) (f : Found) (frame : Frame) → ArgumentsThere graph → IsAcyclic graph → frame.node < length graph
    → entered truth graph frame.node frame.ask ≡ Done → ((function : FunId) → (node_at graph frame.node).kind ≡ kind.SetCall function → ⊥)
    → Standing truth graph root (f.frames ++ frame ∷ []) → Standing truth graph root f.frames
left_done truth graph root f frame there acyclic below done other stands = elim (last_stands truth graph root f.frames frame stands) [
  | at_node kept looks known ↦ kept_there truth graph root f.frames frame.node kept (left_known truth graph root f frame there acyclic below looks done)
  | at_call function asks calls kept ↦ absurd (other function calls)
  | in_call call asks ↦ in_stands truth graph root f.frames call
]

left_again : (truth : ConId) (graph : Graph) (root : ℕ) (f : Found) (frame : Frame) (function : FunId) → (node_at graph frame.node).kind ≡ kind.SetCall function → frame.ask ≡ ask.All
    → Standing truth graph root (f.frames ++ frame ∷ []) → Standing truth graph root (f.frames ++ fresh frame.node ask.Ground ∷ [])
left_again truth graph root f frame function calls all stands = elim (last_stands truth graph root f.frames frame stands) [
  | at_node kept looks known ↦
      in_stands truth graph root (f.frames ++ fresh frame.node ask.Ground ∷ []) (in_first truth graph root f.frames (fresh frame.node ask.Ground) function refl calls kept)
  | at_call other asks same kept ↦ let no : ⊥ = cc in absurd no
  | in_call call asks ↦ let no : ⊥ = cc in absurd no
]

marked_stands : (truth : ConId) (graph : Graph) (root : ℕ) (f : Found) (b : Bool) (id : ℕ) → (f.waits ≡ false → Standing truth graph root f.frames)
    → Stands truth graph root (with_mark f b id mark.There)
marked_stands truth graph root f b id stands quiet =
    subst (λ (fs : List Frame). Standing truth graph root fs) (sym (marked_frames f b id mark.There)) (stands (sym (marked_waits f b id mark.There) ∙ quiet))

left_by : (truth : ConId) (graph : Graph) (root : ℕ) (f : Found) (frame : Frame) (k : Kind) (a : Ask) → ArgumentsThere graph → IsAcyclic graph → Fits truth graph (with_frame f frame) Done
    → frame.next ≡ length (looked_at graph frame.node) → frame.waits ≡ false → (node_at graph frame.node).kind ≡ k → frame.ask ≡ a → left_need frame.node k a ≡ None
    → Stands truth graph root (with_frame f frame) → Stands truth graph root (left_there f frame k a)
left_by truth graph root f frame (kind.Cons c) a there acyclic fits last waits kinds asks goes stands =
    marked_stands truth graph root f (is_inside a) frame.node (λ quiet.
    left_done truth graph root f frame there acyclic (last_fits truth graph f frame fits).there
    (left_entered truth graph f frame fits last waits ∙ ap (λ k. then_needed truth graph frame.node k frame.ask (node_at graph frame.node).args) kinds)
    (λ function calls. (let no : kind.Cons c ≡ kind.SetCall function = sym kinds ∙ calls in cc)) (stands quiet))
left_by truth graph root f frame (kind.Part h) a there acyclic fits last waits kinds asks goes stands =
    marked_stands truth graph root f (is_inside a) frame.node (λ quiet.
    left_done truth graph root f frame there acyclic (last_fits truth graph f frame fits).there
    (left_entered truth graph f frame fits last waits ∙ ap (λ k. then_needed truth graph frame.node k frame.ask (node_at graph frame.node).args) kinds)
    (λ function calls. (let no : kind.Part h ≡ kind.SetCall function = sym kinds ∙ calls in cc)) (stands quiet))
left_by truth graph root f frame (kind.SetCall g) ask.All there acyclic fits last waits kinds asks goes stands =
    λ quiet. left_again truth graph root f frame g kinds asks (stands quiet)
left_by truth graph root f frame _ a there acyclic fits last waits kinds asks goes stands = let no : ⊥ = cc in absurd no

left_as : (truth : ConId) (graph : Graph) (root : ℕ) (f : Found) (frame : Frame) (waits : Bool) → ArgumentsThere graph → IsAcyclic graph → frame.waits ≡ waits
    → Fits truth graph (with_frame f frame) Done → frame.next ≡ length (looked_at graph frame.node) → Stands truth graph root (with_frame f frame)
    → left_answer frame (node_at graph frame.node).kind waits ≡ None → Stands truth graph root (left f frame (node_at graph frame.node).kind waits)
left_as truth graph root f frame true there acyclic is fits last stands goes = λ quiet. (let no : ⊥ = cc in absurd no)
left_as truth graph root f frame false there acyclic is fits last stands goes =
    left_by truth graph root f frame (node_at graph frame.node).kind frame.ask there acyclic fits last is refl refl goes stands

pub stands_left : (truth : ConId) (graph : Graph) (root : ℕ) (f : Found) (frame : Frame) → ArgumentsThere graph → IsAcyclic graph → Fits truth graph (with_frame f frame) Done
    → frame.next ≡ length (looked_at graph frame.node) → Stands truth graph root (with_frame f frame)
    → left_answer frame (node_at graph frame.node).kind frame.waits ≡ None → Stands truth graph root (left f frame (node_at graph frame.node).kind frame.waits)
stands_left truth graph root f frame there acyclic fits last stands goes = left_as truth graph root f frame frame.waits there acyclic refl fits last stands goes

not_own : (graph : Graph) (id : ℕ) (x : Frame) (b : Bool) → nat_eq x.node id ≡ b → height graph id < height graph x.node → b ≡ false
not_own graph id x true is less =
    let same : height graph x.node ≡ height graph id = ap (height graph) (eqb-true x.node id is) in
    absurd (omega arith)
not_own graph id x false is less = refl

own_below : (graph : Graph) (id : ℕ) (frames : List Frame) → IsBelow graph id frames → without_own id frames ≡ frames
unfolding IsBelow without_own
own_below graph id [] below = refl
own_below graph id (x ∷ []) below = ap (λ b. if b then [] else x ∷ []) (not_own graph id x (nat_eq x.node id) refl below.0)
own_below graph id (x ∷ y ∷ frames) below = ap (λ fs. x ∷ fs) (own_below graph id (y ∷ frames) below.1)

waiting_goes : (xs : List ℕ) (id : ℕ) → waiting xs ≡ At id → ⊥
waiting_goes [] id is = cc
waiting_goes (x ∷ xs) id is = cc

inside_waits : (graph : Graph) (id other : ℕ) → inside_need graph id ≡ At other → ⊥
unfolding inside_need
inside_waits graph id other is = waiting_goes (free_at (free_within (length graph) graph) id (node_at graph id).kind (node_at graph id).args) other is

left_at : (truth : ConId) (graph : Graph) (root : ℕ) (f : Found) (frame : Frame) → Fits truth graph (with_frame f frame) Done → frame.next ≡ length (looked_at graph frame.node)
    → frame.waits ≡ false → then_at truth graph frame ≡ At frame.node → Stands truth graph root (with_frame f frame) → Ends truth graph root f frame.node
left_at truth graph root f frame fits last waits needs stands quiet =
    let alone : without_own frame.node f.frames ≡ f.frames = own_below graph frame.node f.frames (path_prefix graph f.frames frame fits.path).1 in
    elim (last_stands truth graph root f.frames frame (stands quiet)) [
      | at_node kept looks known ↦ subst (λ (fs : List Frame). IsKept truth graph root fs frame.node) (sym alone) kept
      | at_call function asks calls kept ↦ subst (λ (fs : List Frame). IsKept truth graph root fs frame.node) (sym alone) kept
      | in_call call asks ↦
          absurd
          (inside_waits graph frame.node frame.node
          (sym (ap (λ a. marked_need (is_inside a) truth graph frame.node) asks)
          ∙ none_waits truth graph (so_far f) frame (last_fits truth graph f frame fits) last waits ∙ needs))
    ]

left_ends_as : (truth : ConId) (graph : Graph) (root : ℕ) (f : Found) (frame : Frame) (waits : Bool) (n : Need) → frame.waits ≡ waits → Fits truth graph (with_frame f frame) Done
    → frame.next ≡ length (looked_at graph frame.node) → Stands truth graph root (with_frame f frame) → Some n ≡ left_answer frame (node_at graph frame.node).kind waits
    → EndsAt truth graph root f n
left_ends_as truth graph root f frame true n is fits last stands answers = let no : ⊥ = cc in absurd no
left_ends_as truth graph root f frame false n is fits last stands answers =
    let at = then_answers truth graph frame.node (node_at graph frame.node).kind frame.ask (node_at graph frame.node).args n answers in
    subst (λ (m : Need). EndsAt truth graph root f m) (sym at.1) (left_at truth graph root f frame fits last is at.0 stands)

pub ends_left : (truth : ConId) (graph : Graph) (root : ℕ) (f : Found) (frame : Frame) (n : Need) → Fits truth graph (with_frame f frame) Done
    → frame.next ≡ length (looked_at graph frame.node) → Stands truth graph root (with_frame f frame)
    → left_answer frame (node_at graph frame.node).kind frame.waits ≡ Some n → EndsAt truth graph root f n
ends_left truth graph root f frame n fits last stands answers = left_ends_as truth graph root f frame frame.waits n refl fits last stands (sym answers)

-- ---- the first look

unseen_tells : (truth : ConId) (graph : Graph) (frames : List Frame) → MarksTell truth graph (resumed frames)
unseen_tells truth graph frames true id below is = let no : ⊥ = cc in absurd no
unseen_tells truth graph frames false id below is = let no : ⊥ = cc in absurd no

pub stands_first : (truth : ConId) (graph : Graph) (root : ℕ) (frames : List Frame) (id : ℕ) (l : Look) → ArgumentsThere graph → IsAcyclic graph → id < length graph
    → IsKept truth graph root frames id → l ≡ resumed_shown truth graph root frames id → at_once l ≡ None → Stands truth graph root (met (resumed frames) l)
stands_first truth graph root frames id l there acyclic below kept is goes =
    kept_met truth graph root (resumed frames) id l there acyclic below kept (unseen_tells truth graph frames) is goes

pub ends_first : (truth : ConId) (graph : Graph) (root : ℕ) (frames : List Frame) (id : ℕ) (l : Look) (n : Need) → IsKept truth graph root frames id
    → l ≡ resumed_shown truth graph root frames id → at_once l ≡ Some n → EndsAt truth graph root (resumed frames) n
ends_first truth graph root frames id l n kept is answers =
    answered truth graph root (resumed frames) l n answers (λ other shows quiet. kept_ends truth graph root frames id other kept (sym is ∙ shows))

-- no frame need be kept
none_kept : (truth : ConId) (graph : Graph) (root : ℕ) → IsKept truth graph root [] root
unfolding Leads
none_kept truth graph root = refl

pub from_root : (truth : ConId) (graph : Graph) (root : ℕ) (frames : List Frame) → frames ≡ [] → IsKept truth graph root frames root
from_root truth graph root frames is = subst (λ (fs : List Frame). IsKept truth graph root fs root) (sym is) (none_kept truth graph root)

-- ---- what changes nothing

pub stands_unseen : (truth : ConId) (graph : Graph) (root : ℕ) (f : Found) (count : ℕ) → Stands truth graph root f → Stands truth graph root (unseen_all f count)
stands_unseen truth graph root f count stands quiet = stands quiet

pub stands_waited : (truth : ConId) (graph : Graph) (root : ℕ) (f : Found) → Stands truth graph root (waited f)
stands_waited truth graph root f quiet = let no : ⊥ = cc in absurd no

pub stands_kept : (truth : ConId) (graph : Graph) (root : ℕ) (f g : Found) (count : ℕ) → g ≡ unseen_all f count → Stands truth graph root f → Stands truth graph root g
stands_kept truth graph root f g count is stands =
    subst (λ (h : Found). Stands truth graph root h) (sym is) (stands_unseen truth graph root f count stands)

-- ---- what the code answers

-- where a look answers at once, nothing else is found
met_answers : (f : Found) (l : Look) (n : Need) → at_once l ≡ Some n → met f l ≡ f
met_answers f look.Dead n is = refl
met_answers f (look.At id) n is = refl
met_answers f _ n is = let no : ⊥ = cc in absurd no

-- what was found after a look, and what it answers
pub met_ends : (truth : ConId) (graph : Graph) (root : ℕ) (f new : Found) (l : Look) (n : Need) → at_once l ≡ Some n → new ≡ met f l → EndsAt truth graph root f n
    → EndsAt truth graph root new n
met_ends truth graph root f new l n answers now leads = subst (λ (g : Found). EndsAt truth graph root g n) (sym (now ∙ met_answers f l n answers)) leads

pub first_stands : (truth : ConId) (graph : Graph) (f new : Found) (root : ℕ) (frames : List Frame) (id : ℕ) (l : Look) → ArgumentsThere graph → IsAcyclic graph → id < length graph
    → IsKept truth graph root frames id → f ≡ resumed frames → l ≡ resumed_shown truth graph root frames id → None ≡ at_once l → new ≡ met f l → Stands truth graph root new
first_stands truth graph f new root frames id l there acyclic below kept begins is answers now =
    subst (λ (g : Found). Stands truth graph root g) (sym (now ∙ ap (λ g. met g l) begins))
    (stands_first truth graph root frames id l there acyclic below kept is (sym answers))

pub first_ends : (truth : ConId) (graph : Graph) (f new : Found) (root : ℕ) (frames : List Frame) (id : ℕ) (l : Look) (n : Need) → IsKept truth graph root frames id
    → f ≡ resumed frames → l ≡ resumed_shown truth graph root frames id → Some n ≡ at_once l → new ≡ met f l → EndsAt truth graph root new n
first_ends truth graph f new root frames id l n kept begins is answers now =
    met_ends truth graph root (resumed frames) new l n (sym answers) (now ∙ ap (λ g. met g l) begins) (ends_first truth graph root frames id l n kept is (sym answers))

pub next_stands : {E : Type 0} (truth : ConId) (graph : Graph) (f pushed new : Found) (frame : Frame) (l : Look) (r : Result (Option Needed) E) → ArgumentsThere graph
    → IsAcyclic graph → Fits truth graph (with_frame f frame) Done → frame.next < length (looked_at graph frame.node)
    → l ≡ look_at truth graph frame (argument graph frame) → pushed ≡ with_frame f (further frame) → IfOk r (λ answer. option_map need_of answer ≡ at_once l)
    → OnOk r (new ≡ met pushed l)
    → IfOk r (λ answer. IfNone answer ((root : ℕ) → Stands truth graph root (with_frame f frame) → Stands truth graph root new))
next_stands truth graph f pushed new frame l (Ok (Some needed)) there acyclic fits within is was answers now = tt
next_stands truth graph f pushed new frame l (Ok None) there acyclic fits within is was answers now =
    λ root stands. subst (λ (g : Found). Stands truth graph root g) (sym (now ∙ ap (λ g. met g l) was))
    (stands_next truth graph root f frame l there acyclic fits within stands is (sym answers))
next_stands truth graph f pushed new frame l (Err e) there acyclic fits within is was answers now = tt

pub next_ends : {E : Type 0} (truth : ConId) (graph : Graph) (f pushed new : Found) (frame : Frame) (l : Look) (r : Result (Option Needed) E)
    → frame.next < length (looked_at graph frame.node) → l ≡ look_at truth graph frame (argument graph frame)
    → pushed ≡ with_frame f (further frame) → IfOk r (λ answer. option_map need_of answer ≡ at_once l) → OnOk r (new ≡ met pushed l)
    → IfOk r (λ answer. IfSome answer (λ needed. (root : ℕ) → Stands truth graph root (with_frame f frame) → EndsAt truth graph root new (need_of needed)))
next_ends truth graph f pushed new frame l (Ok (Some needed)) within is was answers now =
    λ root stands. met_ends truth graph root (with_frame f (further frame)) new l (need_of needed) (sym answers) (now ∙ ap (λ g. met g l) was)
    (ends_next truth graph root f frame l (need_of needed) within stands is (sym answers))
next_ends truth graph f pushed new frame l (Ok None) within is was answers now = tt
next_ends truth graph f pushed new frame l (Err e) within is was answers now = tt

pub leave_stands : (truth : ConId) (graph : Graph) (f new : Found) (frame : Frame) (answer : Option Needed) → ArgumentsThere graph → IsAcyclic graph
    → Fits truth graph (with_frame f frame) Done → frame.next ≡ length (looked_at graph frame.node)
    → option_map need_of answer ≡ left_answer frame (node_at graph frame.node).kind frame.waits
    → new ≡ left f frame (node_at graph frame.node).kind frame.waits
    → IfNone answer ((root : ℕ) → Stands truth graph root (with_frame f frame) → Stands truth graph root new)
leave_stands truth graph f new frame (Some needed) there acyclic fits last answers now = tt
leave_stands truth graph f new frame None there acyclic fits last answers now =
    λ root stands. subst (λ (g : Found). Stands truth graph root g) (sym now) (stands_left truth graph root f frame there acyclic fits last stands (sym answers))

-- where leaving a node answers, nothing else is found
there_same : (f : Found) (frame : Frame) (k : Kind) (a : Ask) (n : Need) → Some n ≡ left_need frame.node k a → left_there f frame k a ≡ f
there_same f frame (kind.Cons c) a n is = let no : ⊥ = cc in absurd no
there_same f frame (kind.Part h) a n is = let no : ⊥ = cc in absurd no
there_same f frame (kind.SetCall g) ask.All n is = let no : ⊥ = cc in absurd no
there_same f frame _ a n is = refl

left_same : (f : Found) (frame : Frame) (k : Kind) (waits : Bool) (n : Need) → Some n ≡ left_answer frame k waits → left f frame k waits ≡ f
left_same f frame k true n is = let no : ⊥ = cc in absurd no
left_same f frame k false n is = there_same f frame k frame.ask n is

pub leave_ends : (truth : ConId) (graph : Graph) (f new : Found) (frame : Frame) (answer : Option Needed) → Fits truth graph (with_frame f frame) Done
    → frame.next ≡ length (looked_at graph frame.node)
    → option_map need_of answer ≡ left_answer frame (node_at graph frame.node).kind frame.waits
    → new ≡ left f frame (node_at graph frame.node).kind frame.waits
    → IfSome answer (λ needed. (root : ℕ) → Stands truth graph root (with_frame f frame) → EndsAt truth graph root new (need_of needed))
leave_ends truth graph f new frame (Some needed) fits last answers now =
    λ root stands. subst (λ (g : Found). EndsAt truth graph root g (need_of needed)) (sym (now ∙ left_same f frame (node_at graph frame.node).kind frame.waits (need_of needed) answers))
    (ends_left truth graph root f frame (need_of needed) fits last stands (sym answers))
leave_ends truth graph f new frame None fits last answers now = tt

-- ---- the last frame is taken off where it is one of the node

pub own_empty : (id : ℕ) → without_own id [] ≡ []
unfolding without_own
own_empty id = refl
