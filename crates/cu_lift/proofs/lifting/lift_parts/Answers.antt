use Rattle.std.proofs.Common.{◌≡◌, ℕ, List, length, map, slice_get, Some, ap, sym, ◌∙◌, subst, refl}
use Rattle.std.proofs.lemmas.List.{length-map}
use Rattle.cu_calculus.proofs.Lists.{get_map}
use Rattle.cu_kernel.specs.KernelOf.{kernel_of, mark_meaning}
use Rattle.cu_kernel.specs.LocalKernelOf.{local_function_meaning, local_kernel_of, top_function_meaning}
use Rattle.cu_kernel.specs.declared.local.TopFunction.{TopFunction}
use Rattle.cu_kernel.specs.declared.program.ProgramParts.{ProgramParts}
use Rattle.cu_lift.proofs.LiftedWhole.{lifts}
use Rattle.cu_lift.specs.Inside.LiftedPlaces.{ArePlaced, functions_by, marks_by, ordered_numbers}
use Rattle.cu_lift.specs.Lifting.{top_numbers}
use Rattle.cu_lift.specs.declared.placement.Placement.{Placement}
use Rattle.cu_lift.proofs.lifting.lift_parts.Goals as goal

pub placements-requires-clause-known : goal.placements-requires-clause-known
placements-requires-clause-known c = λ i f at.
    c.requires.named i (top_function_meaning f)
    (get_map top_function_meaning c.args.parts.functions.items i f
    (subst (λ (fs : List TopFunction). slice_get fs i ≡ Some f) c.as_slice-functions.ensures.value at))

pub placements-requires-clause-scoped : goal.placements-requires-clause-scoped
placements-requires-clause-scoped c = λ i f at.
    c.requires.part.functions i (top_function_meaning f)
    (get_map top_function_meaning c.args.parts.functions.items i f
    (subst (λ (fs : List TopFunction). slice_get fs i ≡ Some f) c.as_slice-functions.ensures.value at))

ordered_each : (texts : List (List ℕ)) (fs : List TopFunction) (ps : List Placement) → ArePlaced texts (map top_function_meaning fs) ps
    → (slice : List Placement) → slice ≡ ps → (i : ℕ) (f : TopFunction) (p : Placement) → slice_get fs i ≡ Some f → slice_get slice i ≡ Some p
    → p.ordered.items ≡ ordered_numbers (map local_function_meaning f.locals.items)
ordered_each texts fs ps placed slice same i f p at found =
    (placed.each i (top_function_meaning f) p (get_map top_function_meaning fs i f at)
    (subst (λ (xs : List Placement). slice_get xs i ≡ Some p) same found)).ordered

pub lift_functions-requires-clause-ordered : goal.lift_functions-requires-clause-ordered
lift_functions-requires-clause-ordered c =
    ordered_each c.placements.new.names c.as_slice-functions.result.now c.in_ok-placed.placed.items c.in_ok-placed.ensures.placed
    c.as_slice-placed.result.now c.as_slice-placed.ensures.value

pub lift_marks-requires-clause-ordered : goal.lift_marks-requires-clause-ordered
lift_marks-requires-clause-ordered c =
    ordered_each c.placements.new.names c.as_slice-functions.result.now c.in_ok-placed.placed.items c.in_ok-placed.ensures.placed
    c.as_slice-placed.result.now c.as_slice-placed.ensures.value

pub returns-clause-lifted : goal.returns-clause-lifted
returns-clause-lifted c =
    let parts = c.args.parts in
    let fs = c.as_slice-functions.ensures.value in
    let ps = c.as_slice-placed.ensures.value in
    let whole = λ (x : List TopFunction). map top_function_meaning x in
    let made : ProgramParts = record {
      types = parts.types;
      functions = c.in_ok-lifted.lifted;
      synonyms = parts.synonyms;
      modules = parts.modules;
      marks = c.in_ok-marks.marks;
      goal = c.lift_goal-goal.result;
      special = c.lift_special-special.result;
    } in
    lifts c.placements.new.names (local_kernel_of parts) (kernel_of made) c.as_slice-tops.result.now c.in_ok-placed.placed.items
    (c.as_slice-tops.ensures.value ∙ c.in_ok-tops.ensures ∙ ap (λ x. top_numbers 0 (whole x)) fs)
    (c.in_ok-placed.ensures.many ∙ ap length fs ∙ sym (length-map parts.functions.items top_function_meaning))
    (subst (λ (x : List TopFunction). ArePlaced c.placements.new.names (whole x) c.in_ok-placed.placed.items) fs c.in_ok-placed.ensures.placed)
    refl
    (c.in_ok-lifted.ensures ∙ ap (λ x. functions_by c.as_slice-tops.result.now x (whole c.as_slice-functions.result.now)) ps
    ∙ ap (λ x. functions_by c.as_slice-tops.result.now c.in_ok-placed.placed.items (whole x)) fs)
    refl refl
    (c.in_ok-marks.ensures ∙ ap (λ x. marks_by x (map mark_meaning c.as_slice.result.now) (whole c.as_slice-functions.result.now)) ps
    ∙ ap (λ ms. marks_by c.in_ok-placed.placed.items (map mark_meaning ms) (whole c.as_slice-functions.result.now)) c.as_slice.ensures.value
    ∙ ap (λ x. marks_by c.in_ok-placed.placed.items (map mark_meaning parts.marks.items) (whole x)) fs)
    c.lift_goal-goal.ensures c.lift_special-special.ensures
