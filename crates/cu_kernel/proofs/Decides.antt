-- The tests decide whether a program is valid.
use Rattle.std.proofs.Common.{◌≡◌, ◌↔◌, ℕ, Err, IfOk, IsTrue, Ok, Result, map, Bool, true, ◌&&◌, List, Option, None, Some, nat_eq, nat_lt, refl, sym, ◌∙◌, ap}
use Rattle.std.specs.List.{list_all}
use Rattle.std.specs.declared.alloc.AllocError.{AllocError}
use Rattle.std.proofs.lemmas.Bool.{eq-eqb, eqb-true, lt-ltb, ltb-true}
use Rattle.cu_calculus.specs.Program as calculus
use Rattle.cu_calculus.specs.Shape.{takes}
use Rattle.cu_calculus.specs.Valid.{HasSpecial, IsConjunction, fits_function}
use Rattle.cu_calculus.specs.declared.ConId.{ConId}
use Rattle.cu_calculus.specs.declared.Head.TheVariants as head
use Rattle.cu_calculus.specs.declared.builtin.Special.{Special}
use Rattle.cu_kernel.proofs.Conjunction.{conjunction_is, is_the_conjunction, parts_true, true_parts}
use Rattle.cu_kernel.specs.FirstTypes.{has_first_types}
use Rattle.cu_kernel.specs.Kernel.{Kernel, plain_function, program_of}
use Rattle.cu_kernel.specs.KernelOf.{function_meaning, kernel_of}
use Rattle.cu_kernel.specs.declared.program.ProgramParts.{ProgramParts}
use Rattle.cu_kernel.specs.declared.term.Function.{Function}
use Rattle.cu_kernel.specs.Tests.{fit_declarations, has_arities, has_constants, has_special, has_values, is_both, is_conjunction}
use Rattle.cu_kernel.specs.Valid.{IsValid, fit_marks, fits_data_type, fits_goal, fits_synonym}

takes_is : (arity : Option ℕ) (n : ℕ) → takes arity n ≡ true → arity ≡ Some n
takes_is None n so = let bad : ⊥ = cc in absurd bad
takes_is (Some m) n so = ap Some (eqb-true m n so)

is_taken : (arity : Option ℕ) (n : ℕ) → arity ≡ Some n → takes arity n ≡ true
is_taken arity n is = rw (is, eq-eqb n n refl) refl

values_are : (program : calculus.Program) (values : Option ConId) → has_values program values ≡ true
    → (c : ConId) → values ≡ Some c → calculus.arity_in program (head.Con c) ≡ Some 1
values_are program None so c is = let bad : ⊥ = cc in absurd bad
values_are program (Some d) so c is =
    let same : d ≡ c = cc in ap (λ e. calculus.arity_in program (head.Con e)) (sym same) ∙ takes_is (calculus.arity_in program (head.Con d)) 1 so

are_values : (program : calculus.Program) (values : Option ConId)
    → ((c : ConId) → values ≡ Some c → calculus.arity_in program (head.Con c) ≡ Some 1) → has_values program values ≡ true
are_values program None each = refl
are_values program (Some c) each = is_taken (calculus.arity_in program (head.Con c)) 1 (each c refl)

both_is : (special : Special) (found : Option calculus.Function) → is_both special found ≡ true
    → (f : calculus.Function) × (found ≡ Some f) × (f.arity ≡ 2) × IsConjunction special f.body
both_is special None so = let bad : ⊥ = cc in absurd bad
both_is special (Some f) so =
    let both = parts_true (nat_eq f.arity 2) (is_conjunction special f.body) so in
    (f, refl, eqb-true f.arity 2 both.0, conjunction_is special f.body both.1)

is_the_both : (special : Special) (found : Option calculus.Function) (f : calculus.Function) → found ≡ Some f → f.arity ≡ 2
    → IsConjunction special f.body → is_both special found ≡ true
is_the_both special found f is arity body =
    ap (is_both special) is ∙ true_parts (nat_eq f.arity 2) (is_conjunction special f.body) (eq-eqb f.arity 2 arity) (is_the_conjunction special f.body body)

special_is : (program : calculus.Program) → has_special program ≡ true → HasSpecial program
special_is program so =
    let s = program.special in let arity = λ (c : ConId). calculus.arity_in program (head.Con c) in
    let falsity = takes (arity s.falsity) 0 in let truth = takes (arity s.truth) 0 in let ordered = nat_lt s.falsity.0 s.truth.0 in
    let nil = takes (arity s.nil) 0 in let cons = takes (arity s.cons) 2 in let values = has_values program s.values in
    let all = parts_true (is_both s (calculus.function_of program s.both)) (has_constants program) so in
    let six = parts_true (falsity && truth && ordered && nil && cons) values all.1 in
    let five = parts_true (falsity && truth && ordered && nil) cons six.0 in
    let four = parts_true (falsity && truth && ordered) nil five.0 in
    let three = parts_true (falsity && truth) ordered four.0 in
    let two = parts_true falsity truth three.0 in
    record {
      falsity = takes_is (arity s.falsity) 0 two.0;
      truth = takes_is (arity s.truth) 0 two.1;
      ordered = ltb-true s.falsity.0 s.truth.0 three.1;
      nil = takes_is (arity s.nil) 0 four.1;
      cons = takes_is (arity s.cons) 2 five.1;
      both = both_is s (calculus.function_of program s.both) all.0;
      values = values_are program s.values six.1;
    }

is_special : (program : calculus.Program) → HasSpecial program → has_special program ≡ true
is_special program is =
    let s = program.special in let arity = λ (c : ConId). calculus.arity_in program (head.Con c) in
    let falsity = takes (arity s.falsity) 0 in let truth = takes (arity s.truth) 0 in let ordered = nat_lt s.falsity.0 s.truth.0 in
    let nil = takes (arity s.nil) 0 in let cons = takes (arity s.cons) 2 in let values = has_values program s.values in
    true_parts (is_both s (calculus.function_of program s.both)) (has_constants program)
    (is_the_both s (calculus.function_of program s.both) is.both.0 is.both.1 is.both.2 is.both.3)
    (true_parts (falsity && truth && ordered && nil && cons) values
    (true_parts (falsity && truth && ordered && nil) cons
    (true_parts (falsity && truth && ordered) nil
    (true_parts (falsity && truth) ordered
    (true_parts falsity truth (is_taken (arity s.falsity) 0 is.falsity) (is_taken (arity s.truth) 0 is.truth))
    (lt-ltb s.falsity.0 s.truth.0 is.ordered)) (is_taken (arity s.nil) 0 is.nil)) (is_taken (arity s.cons) 2 is.cons))
    (are_values program s.values is.values))

-- a program that passes all tests is valid
pub passes_all : (kernel : Kernel) → has_first_types kernel.special kernel.types ≡ true → has_arities (program_of kernel) ≡ true → has_special (program_of kernel) ≡ true → fit_declarations kernel ≡ true
    → list_all (fits_function (program_of kernel)) (program_of kernel).functions ≡ true → IsValid kernel
passes_all kernel first arities special declarations functions =
    let types = list_all (fits_data_type kernel) kernel.types in let synonyms = list_all (fits_synonym kernel) kernel.synonyms in
    let marks = fit_marks kernel kernel.marks kernel.functions in let goal = fits_goal kernel kernel.goal in
    let all = parts_true (types && synonyms && marks) goal declarations in let three = parts_true (types && synonyms) marks all.0 in
    let two = parts_true types synonyms three.0 in
    record {
      program = record { constructors = arities; functions = functions; special = special_is (program_of kernel) special };
      first_types = first;
      types = two.0;
      synonyms = two.1;
      marks = three.1;
      goal = all.1;
    }

-- a valid program passes each
pub valid_passes : (kernel : Kernel) → IsValid kernel
    → (has_arities (program_of kernel) ≡ true) × (has_special (program_of kernel) ≡ true) × (fit_declarations kernel ≡ true)
    × (list_all (fits_function (program_of kernel)) (program_of kernel).functions ≡ true)
valid_passes kernel valid =
    let types = list_all (fits_data_type kernel) kernel.types in let synonyms = list_all (fits_synonym kernel) kernel.synonyms in
    let marks = fit_marks kernel kernel.marks kernel.functions in let goal = fits_goal kernel kernel.goal in (
      valid.program.constructors,
      is_special (program_of kernel) valid.program.special,
      true_parts (types && synonyms && marks) goal
          (true_parts (types && synonyms) marks (true_parts types synonyms valid.types valid.synonyms) valid.marks) valid.goal,
      valid.program.functions,
    )

-- the last test decides, where the others passed
pub exactly_valid : (parts : ProgramParts) (program : calculus.Program) (functions : List Function) (result : Result Bool AllocError)
    → program ≡ program_of (kernel_of parts) → has_first_types (kernel_of parts).special (kernel_of parts).types ≡ true → has_arities program ≡ true → has_special program ≡ true → fit_declarations (kernel_of parts) ≡ true
    → functions ≡ parts.functions.items
    → IfOk result (λ fit. fit ≡ list_all (fits_function program) (map plain_function (map function_meaning functions)))
    → IfOk result (λ valid. IsTrue valid ↔ IsValid (kernel_of parts))
unfolding program_of
exactly_valid parts program functions (Err e) is first arities special declarations same fits = tt
exactly_valid parts program functions (Ok fit) is first arities special declarations same fits =
    let kernel = kernel_of parts in let whole = program_of kernel in
    let functions_fit : fit ≡ list_all (fits_function whole) whole.functions =
    fits ∙ (λ i. list_all (fits_function (is i)) (map plain_function (map function_meaning (same i)))) in (
      (λ valid. passes_all kernel first (ap has_arities (sym is) ∙ arities) (ap has_special (sym is) ∙ special) declarations (sym functions_fit ∙ valid)),
      (λ valid. functions_fit ∙ (valid_passes kernel valid).3),
    )
