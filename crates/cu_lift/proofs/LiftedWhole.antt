-- The lifted program is made of what the code makes.
use Rattle.std.proofs.Common.{◌≡◌, ℕ, zero, suc, ◌+◌, ◌<◌, List, [], ◌∷◌, ◌++◌, length, get_or, slice_get, Some, option_map, refl, ap, sym, ◌∙◌, subst, arith}
use Rattle.std.proofs.Math.Path.{fun_ext}
use Rattle.std.proofs.lemmas.Option.{get_or_from_slice_get}
use Rattle.cu_kernel.specs.Captures.{AreCaptured}
use Rattle.cu_kernel.specs.Kernel.{Kernel, Mark}
use Rattle.cu_kernel.specs.LocalKernel.{LocalFunction, LocalKernel, TopFunction}
use Rattle.cu_cycles.proofs.Places.{there, within}
use Rattle.cu_lift.specs.Inside.LiftedPlaces.{ArePlaced, AreRows, IsPlacement, captured_at, captured_in, functions_by, lifting_by, locals_by, marks_by, name_at, name_in, row_items}
use Rattle.cu_lift.specs.Lifting.{Lifts, Locals, functions_from, lifted, lifted_goal, lifted_group, lifted_special, lifting_of, local_name, local_number, mark_group, marks_from, rank, top_number, top_numbers}
use Rattle.cu_lift.specs.declared.placement.Placement.{Placement}
use Rattle.cu_names.specs.Texts.{text_of}

captured_there : (ps : List Placement) (i k : ℕ) (p : Placement) → slice_get ps i ≡ Some p → captured_at ps i k ≡ captured_in p k
captured_there [] i k p at = let no : ⊥ = cc in absurd no
captured_there (q ∷ ps) zero k p at = let same : q ≡ p = cc in ap (λ x. captured_in x k) same
captured_there (q ∷ ps) (suc i) k p at = captured_there ps i k p at

name_there : (ps : List Placement) (i k : ℕ) (p : Placement) → slice_get ps i ≡ Some p → name_at ps i k ≡ name_in p k
name_there [] i k p at = let no : ⊥ = cc in absurd no
name_there (q ∷ ps) zero k p at = let same : q ≡ p = cc in ap (λ x. name_in x k) same
name_there (q ∷ ps) (suc i) k p at = name_there ps i k p at

-- what lifting takes of the local functions of the top-level function with a number is what the code keeps of them
record IsKept (number : ℕ → ℕ) (locals : Locals) (m : ℕ) (f : TopFunction) (p : Placement) : Type 0 where
  numbers : (k : ℕ) → get_or p.numbers.items k p.end ≡ local_number (number m) f.locals k
  captured : (k : ℕ) → captured_in p k ≡ locals.captured m k
  names : (k : ℕ) → name_in p k ≡ locals.name m k

one_group : (tops : List ℕ) (locals : Locals) (m : ℕ) (f : TopFunction) (p : Placement) → IsKept (λ i. get_or tops i 0) locals m f p
    → lifted_group (lifting_by tops p) (name_in p) f ≡ lifted_group (lifting_of (λ i. get_or tops i 0) locals m f) (locals.name m) f
one_group tops locals m f p kept =
    let numbers = fun_ext kept.numbers in
    let captured = fun_ext kept.captured in
    let names = fun_ext kept.names in
    λ i. lifted_group (record { top = λ j. get_or tops j 0; inner = numbers i; captured = captured i }) (names i) f

abbrev AllKept : (ℕ → ℕ) → Locals → ℕ → List TopFunction → List Placement → Type 0
AllKept number locals n fs ps =
    (i m : ℕ) (f : TopFunction) (p : Placement) → m ≡ n + i → slice_get fs i ≡ Some f → slice_get ps i ≡ Some p → IsKept number locals m f p

kept_rest : (number : ℕ → ℕ) (locals : Locals) (n : ℕ) (f : TopFunction) (fs : List TopFunction) (p : Placement) (ps : List Placement)
    → AllKept number locals n (f ∷ fs) (p ∷ ps) → AllKept number locals (n + 1) fs ps
kept_rest number locals n f fs p ps kept i m g q is at there = kept (suc i) m g q (is ∙ omega arith) at there

functions_agree : (tops : List ℕ) (locals : Locals) (n : ℕ) (fs : List TopFunction) (ps : List Placement) → length ps ≡ length fs
    → AllKept (λ i. get_or tops i 0) locals n fs ps → functions_by tops ps fs ≡ functions_from (λ i. get_or tops i 0) locals n fs
functions_agree tops locals n [] [] many kept = refl
functions_agree tops locals n [] (p ∷ ps) many kept = refl
functions_agree tops locals n (f ∷ fs) [] many kept = absurd (omega (arith, many))
functions_agree tops locals n (f ∷ fs) (p ∷ ps) many kept =
    let here : n ≡ n + zero = omega arith in
    let rest : length ps ≡ length fs = omega (arith, many) in
    let first = one_group tops locals n f p (kept zero n f p here refl refl) in
    let others = functions_agree tops locals (n + 1) fs ps rest (kept_rest (λ i. get_or tops i 0) locals n f fs p ps kept) in
    λ i. first i ++ others i

marks_agree : (number : ℕ → ℕ) (locals : Locals) (n : ℕ) (ms : List Mark) (fs : List TopFunction) (ps : List Placement) → length ps ≡ length fs
    → AllKept number locals n fs ps → marks_by ps ms fs ≡ marks_from locals n ms fs
marks_agree number locals n [] [] [] many kept = refl
marks_agree number locals n [] [] (p ∷ ps) many kept = refl
marks_agree number locals n (m ∷ ms) [] [] many kept = refl
marks_agree number locals n (m ∷ ms) [] (p ∷ ps) many kept = refl
marks_agree number locals n [] (f ∷ fs) [] many kept = refl
marks_agree number locals n [] (f ∷ fs) (p ∷ ps) many kept = refl
marks_agree number locals n (m ∷ ms) (f ∷ fs) [] many kept = absurd (omega (arith, many))
marks_agree number locals n (m ∷ ms) (f ∷ fs) (p ∷ ps) many kept =
    let here : n ≡ n + zero = omega arith in
    let rest : length ps ≡ length fs = omega (arith, many) in
    let captured = fun_ext (kept zero n f p here refl refl).captured in
    let others = marks_agree number locals (n + 1) ms fs ps rest (kept_rest number locals n f fs p ps kept) in
    λ i. mark_group (captured i) m f ++ others i

all_kept : (texts : List (List ℕ)) (fs : List TopFunction) (ps : List Placement) → ArePlaced texts fs ps → AllKept (top_number fs) (locals_by ps) 0 fs ps
all_kept texts fs ps placed i m f p is at found =
    let same : i ≡ m = omega (arith, is) in
    subst (λ (j : ℕ). IsKept (top_number fs) (locals_by ps) j f p) same (record {
      numbers = (placed.each i f p at found).numbers;
      captured = λ k. sym (captured_there ps i k p found);
      names = λ k. sym (name_there ps i k p found);
    })

captured_is : (locals : List LocalFunction) (rows : List (List ℕ)) (k : ℕ) (g : LocalFunction) → AreRows locals rows
    → slice_get locals k ≡ Some g → AreCaptured locals k (get_or rows k [])
captured_is locals rows k g are at =
    let low = within locals k g at in
    let many = are.as_many in
    let below : k < length rows = omega (arith, low, many) in
    let row = there rows k below in
    subst (λ (xs : List ℕ). AreCaptured locals k xs) (sym (get_or_from_slice_get rows k row.0 [] row.1)) (are.each k row.0 row.1)

name_is : (texts : List (List ℕ)) (number : ℕ) (f : TopFunction) (p : Placement) (k : ℕ) (g : LocalFunction) → IsPlacement texts number f p
    → slice_get f.locals k ≡ Some g → text_of texts (name_in p k) ≡ local_name (text_of texts f.name) (rank f.locals k)
name_is texts number f p k g is at =
    let low = within f.locals k g at in
    let many = is.names_many in
    let below : k < length p.names.items = omega (arith, low, many) in
    let id = there p.names.items k below in
    ap (text_of texts) (get_or_from_slice_get p.names.items k id.0 (record { 0 = 0 }) id.1) ∙ is.named k id.0 id.1

-- the lifted program
pub lifts : (texts : List (List ℕ)) (program : LocalKernel) (result : Kernel) (tops : List ℕ) (ps : List Placement)
    → tops ≡ top_numbers 0 program.functions → length ps ≡ length program.functions → ArePlaced texts program.functions ps
    → result.types ≡ program.types → result.functions ≡ functions_by tops ps program.functions → result.synonyms ≡ program.synonyms
    → result.modules ≡ program.modules → result.marks ≡ marks_by ps program.marks program.functions
    → result.goal ≡ option_map (lifted_goal (λ i. get_or tops i 0)) program.goal → result.special ≡ lifted_special (λ i. get_or tops i 0) program.special
    → Lifts texts program result
unfolding lifted
lifts texts program result tops ps numbered many placed types functions synonyms modules marks goal special =
    let fs = program.functions in
    let kept = all_kept texts fs ps placed in
    let made : result.functions ≡ functions_from (top_number fs) (locals_by ps) 0 fs =
    functions ∙ ap (λ ts. functions_by ts ps fs) numbered ∙ functions_agree (top_numbers 0 fs) (locals_by ps) 0 fs ps many kept in
    let marked = marks ∙ marks_agree (top_number fs) (locals_by ps) 0 program.marks fs ps many kept in
    let goals = goal ∙ ap (λ (ts : List ℕ). option_map (lifted_goal (λ i. get_or ts i 0)) program.goal) numbered in
    let specials = special ∙ ap (λ (ts : List ℕ). lifted_special (λ i. get_or ts i 0) program.special) numbered in
    record {
      locals = locals_by ps;
      captured = λ i k f g at inside. captured_by_each i k f g at inside;
      named = λ i k f g at inside. named_by_each i k f g at inside;
      whole = λ i. record {
        types = types i;
        functions = made i;
        synonyms = synonyms i;
        modules = modules i;
        marks = marked i;
        goal = goals i;
        special = specials i;
      };
    }
  where
    placement_of : (i : ℕ) (f : TopFunction) → slice_get program.functions i ≡ Some f → (p : Placement) × (slice_get ps i ≡ Some p)
    placement_of i f at =
        let low = within program.functions i f at in
        let below : i < length ps = omega (arith, low, many) in there ps i below

    captured_by_each : (i k : ℕ) (f : TopFunction) (g : LocalFunction) → slice_get program.functions i ≡ Some f → slice_get f.locals k ≡ Some g
        → AreCaptured f.locals k (captured_at ps i k)
    captured_by_each i k f g at inside =
        let p = placement_of i f at in
        subst (λ (xs : List ℕ). AreCaptured f.locals k xs) (sym (captured_there ps i k p.0 p.1))
        (captured_is f.locals (row_items p.0.captured.items) k g (placed.each i f p.0 at p.1).captured inside)

    named_by_each : (i k : ℕ) (f : TopFunction) (g : LocalFunction) → slice_get program.functions i ≡ Some f → slice_get f.locals k ≡ Some g
        → text_of texts (name_at ps i k) ≡ local_name (text_of texts f.name) (rank f.locals k)
    named_by_each i k f g at inside =
        let p = placement_of i f at in
        ap (text_of texts) (name_there ps i k p.0 p.1) ∙ name_is texts (top_number program.functions i) f p.0 k g (placed.each i f p.0 at p.1) inside
