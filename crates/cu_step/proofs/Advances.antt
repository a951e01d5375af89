-- One step of the walk, over what its calls answer.
use Rattle.std.proofs.Common.{◌≡◌, ℕ, zero, suc, ◌+◌, ◌<◌, ◌≤◌, List, [], ◌∷◌, Option, None, Some, Result, Ok, Err, IfOk, IfSome, IfNone, OnOk, option_map, refl, ap, ap₂, sym, ◌∙◌, subst, length, get_or, arith}
use Rattle.std.proofs.lemmas.List.{get_or_default}
use Rattle.cu_calculus.specs.declared.ConId.{ConId}
use Rattle.cu_machine.specs.declared.Kind.{Kind}
use Rattle.cu_machine.specs.declared.Kind.TheVariants as kind
use Rattle.cu_machine.specs.Graph.{Graph, head_at, head_of, node_at}
use Rattle.cu_machine.specs.Need.{Need, Done}
use Rattle.cu_machine.specs.Validity.{ArgumentsThere, IsAcyclic}
use Rattle.cu_step.specs.declared.need.Frame.{Frame}
use Rattle.cu_step.specs.declared.need.Look.{Look}
use Rattle.cu_step.specs.declared.need.Needed.{Needed}
use Rattle.cu_step.specs.Inside.Needed.{need_of}
use Rattle.cu_step.specs.Inside.Walk.{Fits, Found, Goes, LookFits, asked, asked_of, at_once, height, left, left_answer, look_need, looked, looked_at, met, outcome, so_far, with_frame}
use Rattle.cu_step.proofs.Frames.{fit_last}
use Rattle.cu_step.proofs.Heights.{argument_lower, argument_there}
use Rattle.cu_step.proofs.Leaves.{left_answers, left_goes}
use Rattle.cu_step.proofs.Looks.{shown_fits, shown_need}
use Rattle.cu_step.proofs.Steps.{look_answers, look_met, next_argument, next_cost, next_lower, next_outcome}

-- ---- a node is left

pub leave_answer : (truth : ConId) (graph : Graph) (f : Found) (frame : Frame) (answer : Option Needed) → frame.next ≡ length (looked_at graph frame.node)
    → option_map need_of answer ≡ left_answer frame (node_at graph frame.node).kind frame.waits
    → IfSome answer (λ needed. need_of needed ≡ outcome truth graph (with_frame f frame) Done)
leave_answer truth graph f frame (Some needed) last answers = left_answers truth graph f frame (need_of needed) last answers
leave_answer truth graph f frame None last answers = tt

pub leave_goes : (truth : ConId) (graph : Graph) (f new : Found) (frame : Frame) (answer : Option Needed) → Fits truth graph (with_frame f frame) Done
    → frame.next ≡ length (looked_at graph frame.node)
    → option_map need_of answer ≡ left_answer frame (node_at graph frame.node).kind frame.waits
    → new ≡ left f frame (node_at graph frame.node).kind frame.waits
    → IfNone answer (Goes truth graph (with_frame f frame) new)
leave_goes truth graph f new frame (Some needed) fits last answers now = tt
leave_goes truth graph f new frame None fits last answers now =
    subst (λ (g : Found). Goes truth graph (with_frame f frame) g) (sym now) (left_goes truth graph f frame fits last (sym answers))

-- ---- the next argument

pub asked_at : (k : Kind) (args : List ℕ) (i : ℕ) → i < length (asked_of k args) → get_or (asked_of k args) i 0 ≡ get_or args i 0
asked_at kind.Apply [] i within = refl
asked_at kind.Apply (x ∷ args) zero within = refl
asked_at kind.Apply (x ∷ args) (suc i) within = absurd (omega arith)
asked_at (kind.Case mode e) [] i within = refl
asked_at (kind.Case mode e) (x ∷ args) zero within = refl
asked_at (kind.Case mode e) (x ∷ args) (suc i) within = absurd (omega arith)
asked_at _ args i within = refl

pub asked_within : (k : Kind) (args : List ℕ) (i : ℕ) → i < length (asked_of k args) → i < length args
asked_within kind.Apply [] i within = within
asked_within kind.Apply (x ∷ args) i within = omega arith
asked_within (kind.Case mode e) [] i within = within
asked_within (kind.Case mode e) (x ∷ args) i within = omega arith
asked_within _ args i within = within

pub within_args : (graph : Graph) (frame : Frame) → frame.next < length (looked_at graph frame.node) → frame.next < length (node_at graph frame.node).args
within_args graph frame within = asked_within (node_at graph frame.node).kind (node_at graph frame.node).args frame.next within

pub frame_there : (truth : ConId) (graph : Graph) (f : Found) (frame : Frame) → Fits truth graph (with_frame f frame) Done → frame.node < length graph
frame_there truth graph f frame fits = (fit_last truth graph (so_far f) f.frames frame Done fits.fit).there

pub frame_next : (truth : ConId) (graph : Graph) (f : Found) (frame : Frame) → Fits truth graph (with_frame f frame) Done → frame.next ≤ length (looked_at graph frame.node)
frame_next truth graph f frame fits = (fit_last truth graph (so_far f) f.frames frame Done fits.fit).next

abbrev pub argument : Graph → Frame → ℕ
argument graph frame = get_or (node_at graph frame.node).args frame.next 0

abbrev pub look_at : ConId → Graph → Frame → ℕ → Look
look_at truth graph frame arg = looked truth frame.node frame.ask (head_of graph arg) (head_at graph arg).kind (head_at graph arg).args

abbrev pub further : Frame → Frame
further frame = record frame { next = frame.next + 1 }

-- a look at the next argument shows what it needs
next_look : (truth : ConId) (graph : Graph) (frame : Frame) → ArgumentsThere graph → IsAcyclic graph → frame.node < length graph → frame.next < length (looked_at graph frame.node)
    → asked truth graph frame.ask frame.node (get_or (looked_at graph frame.node) frame.next 0) ≡ look_need truth graph (look_at truth graph frame (argument graph frame))
next_look truth graph frame there acyclic below within =
    ap (asked truth graph frame.ask frame.node) (asked_at (node_at graph frame.node).kind (node_at graph frame.node).args frame.next within)
    ∙ shown_need truth graph frame.node frame.ask (argument graph frame) there acyclic (argument_there graph frame.node frame.next there below (within_args graph frame within))

next_look_fits : (truth : ConId) (graph : Graph) (frame : Frame) → ArgumentsThere graph → IsAcyclic graph → frame.node < length graph → frame.next < length (looked_at graph frame.node)
    → LookFits truth graph (height graph (argument graph frame)) (look_at truth graph frame (argument graph frame))
next_look_fits truth graph frame there acyclic below within =
    shown_fits truth graph frame.node frame.ask (argument graph frame) there acyclic (argument_there graph frame.node frame.next there below (within_args graph frame within))

next_met : (truth : ConId) (graph : Graph) (f : Found) (frame : Frame) → ArgumentsThere graph → IsAcyclic graph → Fits truth graph (with_frame f frame) Done
    → frame.next < length (looked_at graph frame.node) → at_once (look_at truth graph frame (argument graph frame)) ≡ None
    → Goes truth graph (with_frame f frame) (met (with_frame f (further frame)) (look_at truth graph frame (argument graph frame)))
next_met truth graph f frame there acyclic fits within none =
    let below = frame_there truth graph f frame fits in
    let shows = next_look truth graph frame there acyclic below within in
    let result = look_met truth graph (with_frame f (further frame)) (height graph (argument graph frame)) (look_at truth graph frame (argument graph frame))
    (subst (λ (n : Need). Fits truth graph (with_frame f (further frame)) n) shows (next_argument truth graph f frame fits within))
    (next_look_fits truth graph frame there acyclic below within)
    (next_lower graph f frame (height graph (argument graph frame)) fits.path
    (argument_lower graph frame.node frame.next there acyclic below (within_args graph frame within)))
    none in
    let less = next_cost graph f frame within in
    record {
      fits = result.fits;
      outcome = result.comes ∙ ap (outcome truth graph (with_frame f (further frame))) (sym shows) ∙ next_outcome truth graph f frame within;
      marked = λ marked. result.keeps (record { whole = marked.whole; inside = marked.inside });
      cost = λ marked. (let takes = result.takes (record { whole = marked.whole; inside = marked.inside }) in omega arith);
    }

pub next_answer : {E : Type 0} (truth : ConId) (graph : Graph) (f : Found) (frame : Frame) (l : Look) (r : Result (Option Needed) E) → ArgumentsThere graph → IsAcyclic graph
    → Fits truth graph (with_frame f frame) Done → frame.next < length (looked_at graph frame.node) → l ≡ look_at truth graph frame (argument graph frame)
    → IfOk r (λ answer. option_map need_of answer ≡ at_once l)
    → IfOk r (λ answer. IfSome answer (λ needed. need_of needed ≡ outcome truth graph (with_frame f frame) Done))
next_answer truth graph f frame l (Ok (Some needed)) there acyclic fits within is answers =
    look_answers truth graph (with_frame f (further frame)) (look_at truth graph frame (argument graph frame)) (need_of needed) (answers ∙ ap at_once is)
    ∙ ap (outcome truth graph (with_frame f (further frame))) (sym (next_look truth graph frame there acyclic (frame_there truth graph f frame fits) within))
    ∙ next_outcome truth graph f frame within
next_answer truth graph f frame l (Ok None) there acyclic fits within is answers = tt
next_answer truth graph f frame l (Err e) there acyclic fits within is answers = tt

pub next_goes : {E : Type 0} (truth : ConId) (graph : Graph) (f pushed new : Found) (frame : Frame) (l : Look) (r : Result (Option Needed) E) → ArgumentsThere graph → IsAcyclic graph
    → Fits truth graph (with_frame f frame) Done → frame.next < length (looked_at graph frame.node) → l ≡ look_at truth graph frame (argument graph frame)
    → pushed ≡ with_frame f (further frame)
    → IfOk r (λ answer. option_map need_of answer ≡ at_once l) → OnOk r (new ≡ met pushed l)
    → IfOk r (λ answer. IfNone answer (Goes truth graph (with_frame f frame) new))
next_goes truth graph f pushed new frame l (Ok (Some needed)) there acyclic fits within is was answers now = tt
next_goes truth graph f pushed new frame l (Ok None) there acyclic fits within is was answers now =
    subst (λ (g : Found). Goes truth graph (with_frame f frame) g) (sym (now ∙ ap (λ g. met g l) was ∙ ap (met (with_frame f (further frame))) is))
    (next_met truth graph f frame there acyclic fits within (sym (answers ∙ ap at_once is)))
next_goes truth graph f pushed new frame l (Err e) there acyclic fits within is was answers now = tt

-- ---- the node as it was read

pub read_count : (graph : Graph) (id : ℕ) (k : Kind) (args : List ℕ) → k ≡ (node_at graph id).kind → args ≡ (node_at graph id).args
    → length (asked_of k args) ≡ length (looked_at graph id)
read_count graph id k args kinds same = ap₂ (λ (k : Kind) (xs : List ℕ). length (asked_of k xs)) kinds same

pub read_look : (truth : ConId) (graph : Graph) (frame : Frame) (args : List ℕ) (default : ℕ) (l : Look) → args ≡ (node_at graph frame.node).args
    → frame.next < length (looked_at graph frame.node) → l ≡ look_at truth graph frame (get_or args frame.next default)
    → l ≡ look_at truth graph frame (argument graph frame)
read_look truth graph frame args default l same within is =
    is
    ∙ ap (look_at truth graph frame)
    (ap (λ (xs : List ℕ). get_or xs frame.next default) same ∙ get_or_default (node_at graph frame.node).args frame.next default 0 (within_args graph frame within))
