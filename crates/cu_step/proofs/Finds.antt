-- Where the walk begins and ends.
use Rattle.std.proofs.Common.{◌≡◌, ℕ, zero, suc, ◌<◌, Bool, true, false, [], None, Some, refl, ap, sym, ◌∙◌, subst, length, replicate}
use Rattle.std.proofs.lemmas.List.{length-replicate}
use Rattle.cu_calculus.specs.declared.ConId.{ConId}
use Rattle.cu_machine.specs.Graph.{Graph, head_at, head_of}
use Rattle.cu_machine.specs.Need.{Need, Done, before, need_all}
use Rattle.cu_machine.specs.Validity.{ArgumentsThere, IsAcyclic}
use Rattle.cu_step.specs.declared.need.Ask.TheVariants as ask
use Rattle.cu_step.specs.declared.need.Look.{Look}
use Rattle.cu_step.specs.declared.need.Mark.{Mark}
use Rattle.cu_step.specs.declared.need.Mark.TheVariants as mark
use Rattle.cu_step.specs.Inside.Walk.{AllFit, Fits, Found, IsBelow, IsPath, MarkFits, Marked, asked, at_once, height, inside_need, is_open, look_need, looked, mark_at, met, needed_outside, outcome, so_far, unseen_all, whole_need}
use Rattle.cu_step.proofs.Looks.{shown_fits, shown_need}
use Rattle.cu_step.proofs.Needs.{before_done}
use Rattle.cu_step.proofs.Steps.{look_answers, look_met}

abbrev pub begin : Found
begin = record { frames = []; whole = []; inside = []; waits = false; ids = [] }

begin_fits : (truth : ConId) (graph : Graph) (n : Need) → Fits truth graph begin n
unfolding AllFit IsPath
begin_fits truth graph n = record { whole = λ id below. tt; inside = λ id below. tt; none = λ same. refl; fit = tt; path = tt }

none_below : (graph : Graph) (id : ℕ) → IsBelow graph id []
unfolding IsBelow
none_below graph id = tt

begin_out : (truth : ConId) (graph : Graph) (n : Need) → outcome truth graph begin n ≡ n
unfolding outcome needed_outside
begin_out truth graph n = refl

pub end_out : (truth : ConId) (graph : Graph) (f : Found) → f.frames ≡ [] → outcome truth graph f Done ≡ so_far f
unfolding outcome needed_outside
end_out truth graph f none = ap (λ fs. before (so_far f) (needed_outside truth graph fs Done)) none ∙ before_done (so_far f)

abbrev first_look : ConId → Graph → ℕ → Look
first_look truth graph root = looked truth root ask.All (head_of graph root) (head_at graph root).kind (head_at graph root).args

root_need : (truth : ConId) (graph : Graph) (root : ℕ) → ArgumentsThere graph → IsAcyclic graph → root < length graph → look_need truth graph (first_look truth graph root) ≡ need_all truth graph root
unfolding asked
root_need truth graph root there acyclic below = sym (shown_need truth graph root ask.All root there acyclic below)

pub first_answer : (truth : ConId) (graph : Graph) (root : ℕ) (l : Look) (n : Need) → ArgumentsThere graph → IsAcyclic graph → root < length graph
    → l ≡ first_look truth graph root → Some n ≡ at_once l → n ≡ need_all truth graph root
first_answer truth graph root l n there acyclic below is answers =
    look_answers truth graph begin (first_look truth graph root) n (answers ∙ ap at_once is)
    ∙ begin_out truth graph (look_need truth graph (first_look truth graph root))
    ∙ root_need truth graph root there acyclic below

-- what holds before each look
abbrev pub Begun : ConId → Graph → ℕ → Found → Type 0
Begun truth graph root f = Fits truth graph f Done × (outcome truth graph f Done ≡ need_all truth graph root)

pub first_met : (truth : ConId) (graph : Graph) (f new : Found) (root : ℕ) (l : Look) → ArgumentsThere graph → IsAcyclic graph → root < length graph → f ≡ begin
    → l ≡ first_look truth graph root → None ≡ at_once l → new ≡ met f l → Begun truth graph root new
first_met truth graph f new root l there acyclic below begins is answers now =
    let result = look_met truth graph begin (height graph root) (first_look truth graph root)
    (begin_fits truth graph (look_need truth graph (first_look truth graph root))) (shown_fits truth graph root ask.All root there acyclic below)
    (λ id low. none_below graph id) (sym (answers ∙ ap at_once is)) in
    let begun : Begun truth graph root (met begin (first_look truth graph root)) = (
      result.fits,
      result.comes ∙ begin_out truth graph (look_need truth graph (first_look truth graph root)) ∙ root_need truth graph root there acyclic below,
    ) in
    subst (λ (g : Found). Begun truth graph root g) (sym (now ∙ ap (λ g. met g l) begins ∙ ap (met begin) is)) begun

-- ---- marks are kept from now on

unseen : (count id : ℕ) → mark_at (replicate count mark.Unseen) id ≡ mark.Unseen
unseen zero id = refl
unseen (suc count) zero = refl
unseen (suc count) (suc id) = unseen count id

unseen_fits : (told_so_far : Need) (is : Bool) (m : Mark) (n : Need) → m ≡ mark.Unseen → MarkFits told_so_far is m n
unseen_fits told_so_far is mark.Unseen n same = tt
unseen_fits told_so_far is mark.There n same = let no : ⊥ = cc in absurd no
unseen_fits told_so_far is mark.Waits n same = let no : ⊥ = cc in absurd no

pub marks_begin : (truth : ConId) (graph : Graph) (f : Found) (n : Need) → Fits truth graph f n → Fits truth graph (unseen_all f (length graph)) n
marks_begin truth graph f n fits = record {
  whole = λ id below. unseen_fits (so_far f) (is_open false id f.frames) (mark_at (replicate (length graph) mark.Unseen) id) (whole_need truth graph id) (unseen (length graph) id);
  inside = λ id below. unseen_fits (so_far f) (is_open true id f.frames) (mark_at (replicate (length graph) mark.Unseen) id) (inside_need graph id) (unseen (length graph) id);
  none = fits.none;
  fit = fits.fit;
  path = fits.path;
}

pub marks_there : (graph : Graph) (f : Found) → Marked graph (unseen_all f (length graph))
marks_there graph f = record { whole = length-replicate (length graph) mark.Unseen; inside = length-replicate (length graph) mark.Unseen }

pub marks_out : (truth : ConId) (graph : Graph) (f : Found) (count : ℕ) (n : Need) → outcome truth graph (unseen_all f count) n ≡ outcome truth graph f n
unfolding outcome
marks_out truth graph f count n = refl

pub kept_fits : (truth : ConId) (graph : Graph) (f g : Found) (count : ℕ) → g ≡ unseen_all f count → count ≡ length graph → Fits truth graph f Done → Fits truth graph g Done
kept_fits truth graph f g count is same fits =
    subst (λ (h : Found). Fits truth graph h Done) (sym (is ∙ ap (unseen_all f) same)) (marks_begin truth graph f Done fits)

pub kept_marked : (graph : Graph) (f g : Found) (count : ℕ) → g ≡ unseen_all f count → count ≡ length graph → Marked graph g
kept_marked graph f g count is same = subst (λ (h : Found). Marked graph h) (sym (is ∙ ap (unseen_all f) same)) (marks_there graph f)

pub kept_out : (truth : ConId) (graph : Graph) (f g : Found) (count : ℕ) → g ≡ unseen_all f count → outcome truth graph g Done ≡ outcome truth graph f Done
kept_out truth graph f g count is = ap (λ h. outcome truth graph h Done) is ∙ marks_out truth graph f count Done
