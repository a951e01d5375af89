-- The program of well-formed code is valid and flat.
use Rattle.std.proofs.Common.{◌≡◌, ◌≢◌, ℕ, zero, suc, Bool, true, false, not, ◌&&◌, List, [], ◌∷◌, ◌++◌, Option, None, Some, IsTrue, length, map, nat_eq, nat_lt, slice_get, option_map, refl, ap, sym, subst, ◌∙◌, arith}
use Rattle.std.specs.List.{list_all}
use Rattle.std.proofs.lemmas.Bool.{and_from, and_parts, eqb-false, eqb-true, ltb-true, not-true, true≢false}
use Rattle.cu_calculus.specs.declared.ConId.{ConId}
use Rattle.cu_calculus.specs.declared.ExprId.{ExprId}
use Rattle.cu_calculus.specs.declared.FunId.{FunId}
use Rattle.cu_calculus.specs.declared.Head.TheVariants as head
use Rattle.cu_calculus.specs.declared.Mode.TheVariants.{Flex}
use Rattle.cu_calculus.specs.Code as code
use Rattle.cu_calculus.specs.Code.{Branch, Code, Expr, Shallow, arity_of, body_of, expr_of, function_arity}
use Rattle.cu_calculus.specs.Flat as flat
use Rattle.cu_calculus.specs.Flat.{are_flat_alternatives, are_flat_terms, are_variables, demands_of, is_flat, is_flat_body, is_flat_term, is_shallow}
use Rattle.cu_calculus.specs.FlatProgram.{all_any, alternatives_of, body_in, function_in, pattern_of, program_of, term_of, term_over, term_within, terms_of}
use Rattle.cu_calculus.specs.Program.{Body, Function, Rules, arity_in, function_of}
use Rattle.cu_calculus.specs.Shape.{takes, takes_more}
use Rattle.cu_calculus.specs.Term as term
use Rattle.cu_calculus.specs.Term.{Alternatives, Pattern, Term}
use Rattle.cu_calculus.specs.Valid as valid
use Rattle.cu_calculus.specs.Valid.{HasSpecial, IsConjunction, IsValid, all_variables, by_case, external_arity, fit_patterns, fits_term, holds, is_arity, is_linear, pattern_count}
use Rattle.cu_calculus.specs.WellFormed.{bound_by, conjoins, conjoins_cases, fit_branches, fits, fits_body, fits_case, fits_expr, fits_function, fits_pattern, has_special, is_allowed, is_constant, is_variable, is_well_formed, same_pattern, without}
use Rattle.cu_calculus.proofs.Comparing.{same_is}
use Rattle.cu_calculus.proofs.FlatFitting.{any_are_variables, any_count, any_fit, any_variables, arity_kept, differ_kept, function_there, nat_eq_comm, shallow_kept, within_fits}
use Rattle.cu_calculus.proofs.FlatTerms.{branches_fit, fits_branch, within_itself}
use Rattle.cu_calculus.proofs.Lists.{passed_at}

-- what passes one test passes another after a map
all_pass : {A B : Type 0} (f : A → B) (p : A → Bool) (q : B → Bool) → ((x : A) → IsTrue (p x) → IsTrue (q (f x))) → (xs : List A)
    → IsTrue (list_all p xs) → IsTrue (list_all q (map f xs))
all_pass f p q each [] h = refl
all_pass f p q each (x ∷ xs) h =
    let parts = and_parts (p x) (list_all p xs) h in
    and_from (q (f x)) (list_all q (map f xs)) (each x parts.0) (all_pass f p q each xs parts.1)

-- ---- flat terms

abbrev pub AreFlat : (List ℕ → ExprId → Bool) → (ExprId → Term) → Type 0
AreFlat part t = (scope : List ℕ) (e : ExprId) → IsTrue (part scope e) → IsTrue (is_flat_term (t e))

terms_flat : (part : List ℕ → ExprId → Bool) (t : ExprId → Term) (scope : List ℕ) (es : List ExprId) → AreFlat part t → IsTrue (list_all (part scope) es)
    → IsTrue (are_flat_terms (terms_of t es))
terms_flat part t scope [] each h = refl
terms_flat part t scope (e ∷ es) each h =
    let parts = and_parts (part scope e) (list_all (part scope) es) h in
    and_from (is_flat_term (t e)) (are_flat_terms (terms_of t es)) (each scope e parts.0) (terms_flat part t scope es each parts.1)

two_flat : (part : List ℕ → ExprId → Bool) (t : ExprId → Term) (first second : List ℕ) (a b : ExprId) → AreFlat part t → IsTrue (part first a && part second b)
    → IsTrue (is_flat_term (t a) && is_flat_term (t b))
two_flat part t first second a b each h =
    let parts = and_parts (part first a) (part second b) h in
    and_from (is_flat_term (t a)) (is_flat_term (t b)) (each first a parts.0) (each second b parts.1)

alternatives_flat : (part : List ℕ → ExprId → Bool) (t : ExprId → Term) (program : Code) (kept : List ℕ) (branches : List Branch) → AreFlat part t
    → IsTrue (list_all (fits_branch part program kept) branches) → IsTrue (are_flat_alternatives (alternatives_of t branches))
alternatives_flat part t program kept [] each h = refl
alternatives_flat part t program kept (branch ∷ branches) each h =
    let parts = and_parts (fits_branch part program kept branch) (list_all (fits_branch part program kept) branches) h in
    let here = and_parts (fits_pattern program branch.pattern) (part (kept ++ bound_by branch.pattern) branch.body) parts.0 in
    let shallow = is_shallow (pattern_of branch.pattern) in
    let body = is_flat_term (t branch.body) in
    and_from (shallow && body) (are_flat_alternatives (alternatives_of t branches))
    (and_from shallow body (shallow_kept branch.pattern) (each (kept ++ bound_by branch.pattern) branch.body here.1))
    (alternatives_flat part t program kept branches each parts.1)

over_flat : (part : List ℕ → ExprId → Bool) (t : ExprId → Term) (program : Code) (scope : List ℕ) (o : Option Expr) → AreFlat part t
    → IsTrue (fits_expr part program scope o) → IsTrue (is_flat_term (term_over t o))
over_flat part t program scope None each h = absurd (true≢false (sym h))
over_flat part t program scope (Some (code.Variable x)) each h = refl
over_flat part t program scope (Some (code.Literal l)) each h = refl
over_flat part t program scope (Some (code.Whole k es)) each h =
    terms_flat part t scope es each
    (and_parts (is_allowed program k && takes (arity_of program k) (length es)) (list_all (part scope) es) h).1
over_flat part t program scope (Some (code.Part k es)) each h =
    terms_flat part t scope es each
    (and_parts (is_allowed program k && takes_more (arity_of program k) (length es)) (list_all (part scope) es) h).1
over_flat part t program scope (Some (code.Apply function argument)) each h = two_flat part t scope scope function argument each h
over_flat part t program scope (Some (code.Let x bound body)) each h = two_flat part t (without x scope) (scope ++ x ∷ []) bound body each h
over_flat part t program scope (Some (code.Free x body)) each h = each (scope ++ x ∷ []) body h
over_flat part t program scope (Some (code.Or left right)) each h = two_flat part t scope scope left right each h
over_flat part t program scope (Some (code.Case mode kept e branches)) each h =
    let all = list_all (λ x. holds x scope) kept in
    let parts = and_parts (all && part scope e) (fit_branches part program kept branches) h in
    let prefix = and_parts all (part scope e) parts.0 in
    let rest = branches_fit part program kept branches parts.1 in
    let differ : flat.all_differ (demands_of (alternatives_of t branches)) ≡ true = differ_kept t branches ∙ rest.0 in
    let looks = is_flat_term (t e) && flat.all_differ (demands_of (alternatives_of t branches)) in
    and_from looks (are_flat_alternatives (alternatives_of t branches))
    (and_from (is_flat_term (t e)) (flat.all_differ (demands_of (alternatives_of t branches))) (each scope e prefix.1) differ)
    (alternatives_flat part t program kept branches each rest.1)

within_flat : (program : Code) (depth : ℕ) → AreFlat (fits depth program) (term_within depth program)
unfolding term_within
within_flat program zero scope e h = absurd (true≢false (sym h))
within_flat program (suc depth) scope e h =
    over_flat (fits depth program) (term_within depth program) program scope (expr_of program e) (within_flat program depth) h

-- ---- functions

body_valid : (program : Code) (arity : ℕ) (body : code.Body) → IsTrue (fits_body program arity body)
    → IsTrue (valid.fits_body (program_of program) arity (body_in program body))
body_valid program arity (code.External operation) h = nat_eq_comm arity (external_arity operation) ∙ h
body_valid program arity (code.Rule params e) h =
    let P = program_of program in
    let count = nat_eq (length params) arity in
    let parts = and_parts (count && is_linear params) (fits (length program.expressions) program params e) h in
    let prefix = and_parts count (is_linear params) parts.0 in
    let patterns = fit_patterns P (all_any params) in
    let linear = is_linear (all_variables (all_any params)) in
    let as_many : IsTrue (nat_eq (pattern_count (all_any params)) arity) = rw (any_count params) prefix.0 in
    let different : IsTrue linear = rw (any_variables params) prefix.1 in
    let term : IsTrue (fits_term P (λ x. holds x (all_variables (all_any params))) (term_of program e)) =
    subst (λ (xs : List ℕ). IsTrue (fits_term P (λ x. holds x xs) (term_of program e))) (sym (any_variables params))
    (within_fits program (length program.expressions) params e parts.1) in
    let rule = nat_eq (pattern_count (all_any params)) arity && patterns && linear in
    let fitting = fits_term P (λ x. holds x (all_variables (all_any params))) (term_of program e) in
    and_from (rule && fitting) true (and_from rule fitting
    (and_from (nat_eq (pattern_count (all_any params)) arity && patterns) linear
    (and_from (nat_eq (pattern_count (all_any params)) arity) patterns as_many (any_fit P params)) different) term) refl

function_valid : (program : Code) (function : code.Function) → IsTrue (fits_function program function)
    → IsTrue (valid.fits_function (program_of program) (function_in program function))
function_valid program function h =
    let parts = and_parts (is_arity function.arity) (fits_body program function.arity function.body) h in
    and_from (is_arity function.arity) (valid.fits_body (program_of program) function.arity (body_in program function.body)) parts.0
    (body_valid program function.arity function.body parts.1)

body_flat : (program : Code) (arity : ℕ) (body : code.Body) → IsTrue (fits_body program arity body) → IsTrue (is_flat_body (body_in program body))
body_flat program arity (code.External operation) h = refl
body_flat program arity (code.Rule params e) h =
    let parts = and_parts (nat_eq (length params) arity && is_linear params) (fits (length program.expressions) program params e) h in
    let linear = is_linear (all_variables (all_any params)) in
    let different : IsTrue linear = rw (any_variables params) (and_parts (nat_eq (length params) arity) (is_linear params) parts.0).1 in
    and_from (are_variables (all_any params) && linear) (is_flat_term (term_of program e))
    (and_from (are_variables (all_any params)) linear (any_are_variables params) different)
    (within_flat program (length program.expressions) params e parts.1)

function_flat : (program : Code) (function : code.Function) → IsTrue (fits_function program function)
    → IsTrue (is_flat_body (body_in program function.body))
function_flat program function h =
    body_flat program function.arity function.body (and_parts (is_arity function.arity) (fits_body program function.arity function.body) h).1

-- ---- the conjunction

over_variable : (t : ExprId → Term) (x : ℕ) (o : Option Expr) → is_variable x o ≡ true → term_over t o ≡ term.Variable x
over_variable t x (Some (code.Variable y)) h = ap term.Variable (sym (eqb-true x y h))
over_variable t x _ h = absurd (true≢false (sym h))

over_constant : (t : ExprId → Term) (c : ConId) (o : Option Expr) → is_constant c o ≡ true → term_over t o ≡ term.Whole (head.Con c) term.NoTerm
over_constant t c (Some (code.Whole (head.Con d) [])) h = ap (λ x. term.Whole (head.Con x) term.NoTerm) (sym (same_is c d h))
over_constant t c _ h = absurd (true≢false (sym h))

takes_is : (o : Option ℕ) (n : ℕ) → takes o n ≡ true → o ≡ Some n
takes_is None n h = absurd (true≢false (sym h))
takes_is (Some m) n h = ap Some (eqb-true m n h)

constant_pattern : (program : Code) (c : ConId) (p : Shallow) → takes (arity_of program (head.Con c)) 0 ≡ true → fits_pattern program p ≡ true
    → same_pattern p (code.Built c []) ≡ true → pattern_of p ≡ term.Built c term.NoPattern
constant_pattern program c (code.Exactly l) none fit same = absurd (true≢false (sym same))
constant_pattern program c (code.Built d []) none fit same = ap (λ x. term.Built x term.NoPattern) (same_is d c same)
constant_pattern program c (code.Built d (x ∷ xs)) none fit same =
    let whole : takes (arity_of program (head.Con d)) (length (x ∷ xs)) ≡ true =
    (and_parts (takes (arity_of program (head.Con d)) (length (x ∷ xs))) (is_linear (x ∷ xs)) fit).0 in
    let taken : arity_of program (head.Con d) ≡ Some (length (x ∷ xs)) = takes_is (arity_of program (head.Con d)) (length (x ∷ xs)) whole in
    let others : arity_of program (head.Con d) ≡ Some 0 =
    ap (λ y. arity_of program (head.Con y)) (same_is d c same) ∙ takes_is (arity_of program (head.Con c)) 0 none in
    let no : Some (suc (length xs)) ≡ Some 0 = sym taken ∙ others in absurd (some_suc (length xs) no)
  where
    some_suc : (n : ℕ) → Some (suc n) ≡ Some 0 → ⊥
    some_suc n e = let no : suc n ≡ 0 = cc in omega arith

five_parts : (a b c d e : Bool) → IsTrue (a && b && c && d && e) → IsTrue a × IsTrue b × IsTrue c × IsTrue d × IsTrue e
five_parts true true true true true h = (refl, refl, refl, refl, refl)
five_parts true true true true false h = absurd (true≢false (sym h))
five_parts true true true false e h = absurd (true≢false (sym h))
five_parts true true false d e h = absurd (true≢false (sym h))
five_parts true false c d e h = absurd (true≢false (sym h))
five_parts false b c d e h = absurd (true≢false (sym h))

-- the rule of `&&` on these parameters
abbrev pub conjunction : Code → ℕ → ℕ → Term
conjunction program x y =
    term.Case Flex (term.Variable x)
    (term.MoreAlternatives (term.Built program.special.falsity term.NoPattern) (term.Whole (head.Con program.special.falsity) term.NoTerm)
    (term.MoreAlternatives (term.Built program.special.truth term.NoPattern) (term.Variable y) term.NoAlternative))

cases_conjoin : (program : Code) (depth : ℕ) (scope : List ℕ) (x y : ℕ) (o : Option Expr)
    → takes (arity_of program (head.Con program.special.falsity)) 0 ≡ true → takes (arity_of program (head.Con program.special.truth)) 0 ≡ true
    → fits_expr (fits depth program) program scope o ≡ true → conjoins_cases program x y o ≡ true
    → term_over (term_within depth program) o ≡ conjunction program x y
cases_conjoin program depth scope x y (Some (code.Case Flex kept s (first ∷ second ∷ []))) no_false no_true fit h =
    let falsity = program.special.falsity in
    let truth = program.special.truth in
    let part = fits depth program in
    let t = term_within depth program in
    let tests = five_parts (is_variable x (expr_of program s)) (same_pattern first.pattern (code.Built falsity []))
    (is_constant falsity (expr_of program first.body)) (same_pattern second.pattern (code.Built truth [])) (is_variable y (expr_of program second.body)) h in
    let there = list_all (λ z. holds z scope) kept in
    let fits_all = and_parts (there && part scope s) (fit_branches part program kept (first ∷ second ∷ [])) fit in
    let all = (branches_fit part program kept (first ∷ second ∷ []) fits_all.1).1 in
    let more = and_parts (fits_branch part program kept first) (fits_branch part program kept second && true) all in
    let one = and_parts (fits_pattern program first.pattern) (part (kept ++ bound_by first.pattern) first.body) more.0 in
    let last = (and_parts (fits_branch part program kept second) true more.1).0 in
    let two = and_parts (fits_pattern program second.pattern) (part (kept ++ bound_by second.pattern) second.body) last in
    let looked : t s ≡ term.Variable x =
    within_itself program scope depth s (and_parts there (part scope s) fits_all.0).1 ∙ over_variable t x (expr_of program s) tests.0 in
    let none : t first.body ≡ term.Whole (head.Con falsity) term.NoTerm =
    within_itself program (kept ++ bound_by first.pattern) depth first.body one.1 ∙ over_constant t falsity (expr_of program first.body) tests.2 in
    let other : t second.body ≡ term.Variable y =
    within_itself program (kept ++ bound_by second.pattern) depth second.body two.1 ∙ over_variable t y (expr_of program second.body) tests.4 in
    let low : pattern_of first.pattern ≡ term.Built falsity term.NoPattern = constant_pattern program falsity first.pattern no_false one.0 tests.1 in
    let high : pattern_of second.pattern ≡ term.Built truth term.NoPattern = constant_pattern program truth second.pattern no_true two.0 tests.3 in
    rw (looked, none, other, low, high) refl
cases_conjoin program depth scope x y _ no_false no_true fit h = absurd (true≢false (sym h))

body_conjoins : (program : Code) (depth x y : ℕ) (e : ExprId) → takes (arity_of program (head.Con program.special.falsity)) 0 ≡ true
    → takes (arity_of program (head.Con program.special.truth)) 0 ≡ true → IsTrue (fits depth program (x ∷ y ∷ []) e)
    → conjoins_cases program x y (expr_of program e) ≡ true → term_within depth program e ≡ conjunction program x y
unfolding term_within
body_conjoins program zero x y e no_false no_true fit h = absurd (true≢false (sym fit))
body_conjoins program (suc depth) x y e no_false no_true fit h =
    cases_conjoin program depth (x ∷ y ∷ []) x y (expr_of program e) no_false no_true fit h

different : (x y : ℕ) → not (nat_eq x y) ≡ true → x ≢ y
different x y h = eqb-false x y (not-true (nat_eq x y) h)

rule_conjoins : (program : Code) (arity : ℕ) (body : code.Body) → takes (arity_of program (head.Con program.special.falsity)) 0 ≡ true
    → takes (arity_of program (head.Con program.special.truth)) 0 ≡ true → IsTrue (fits_body program arity body) → conjoins program (Some body) ≡ true
    → IsConjunction program.special (body_in program body)
rule_conjoins program arity (code.Rule (x ∷ y ∷ []) e) no_false no_true fit h =
    let depth = length program.expressions in
    let tests = and_parts (not (nat_eq x y)) (conjoins_cases program x y (expr_of program e)) h in
    let count = nat_eq (length (x ∷ y ∷ [])) arity && is_linear (x ∷ y ∷ []) in
    let inside = (and_parts count (fits depth program (x ∷ y ∷ []) e) fit).1 in
    let term : term_of program e ≡ conjunction program x y = body_conjoins program depth x y e no_false no_true inside tests.1 in
    let rule : Term → Body = λ t. Rules (record { params = all_any (x ∷ y ∷ []); body = t } ∷ []) in
    by_case (body_in program (code.Rule (x ∷ y ∷ []) e)) x y (different x y tests.0) (ap rule term)
rule_conjoins program arity _ no_false no_true fit h = absurd (true≢false (sym h))

-- ---- the built-in entities

abbrev pub Both : Code → FunId → Type 0
Both program f = (function : Function) × (function_of (program_of program) f ≡ Some function) × (function.arity ≡ 2)
    × IsConjunction program.special function.body

both_there : (program : Code) (f : FunId) (o : Option code.Function) → slice_get program.functions f.0 ≡ o
    → takes (arity_of program (head.Con program.special.falsity)) 0 ≡ true → takes (arity_of program (head.Con program.special.truth)) 0 ≡ true
    → IsTrue (list_all (fits_function program) program.functions)
    → conjoins program (elim o [ Some function ↦ Some function.body | None ↦ None ]) ≡ true
    → takes (elim o [ Some function ↦ Some function.arity | None ↦ None ]) 2 ≡ true → Both program f
both_there program f None got no_false no_true all h two = absurd (true≢false (sym h))
both_there program f (Some function) got no_false no_true all h two =
    let fits_it = passed_at (fits_function program) program.functions f.0 function all got in
    let body = (and_parts (is_arity function.arity) (fits_body program function.arity function.body) fits_it).1 in
    let there : function_of (program_of program) f ≡ Some (function_in program function) =
    function_there program f ∙ ap (option_map (function_in program)) got in (
      function_in program function,
      there,
      eqb-true function.arity 2 two,
      rule_conjoins program function.arity function.body no_false no_true body h,
    )

arity_taken : (program : Code) (c : ConId) (n : ℕ) → takes (arity_of program (head.Con c)) n ≡ true → arity_in (program_of program) (head.Con c) ≡ Some n
arity_taken program c n h = arity_kept program (head.Con c) ∙ takes_is (arity_of program (head.Con c)) n h

values_taken : (program : Code) (o : Option ConId) → elim o [ Some c ↦ takes (arity_of program (head.Con c)) 1 | None ↦ true ] ≡ true
    → (c : ConId) → o ≡ Some c → arity_in (program_of program) (head.Con c) ≡ Some 1
values_taken program None h c e = let no : ⊥ = cc in absurd no
values_taken program (Some d) h c e =
    let same : d ≡ c = cc in subst (λ (x : ConId). arity_in (program_of program) (head.Con x) ≡ Some 1) same (arity_taken program d 1 h)

special_there : (program : Code) → IsTrue (list_all (fits_function program) program.functions) → IsTrue (has_special program) → HasSpecial (program_of program)
special_there program all h =
    let con : ConId → ℕ → Bool = λ c n. takes (arity_of program (head.Con c)) n in
    let s = program.special in
    let both = takes (arity_of program (head.Fun s.both)) 2 in
    let values : Bool = elim s.values [ Some c ↦ takes (arity_of program (head.Con c)) 1 | None ↦ true ] in
    let last = and_parts (con s.falsity 0 && con s.truth 0 && nat_lt s.falsity.0 s.truth.0 && con s.nil 0 && con s.cons 2
    && conjoins program (body_of program s.both) && both) values h in
    let second = and_parts (con s.falsity 0 && con s.truth 0 && nat_lt s.falsity.0 s.truth.0 && con s.nil 0 && con s.cons 2
    && conjoins program (body_of program s.both)) both last.0 in
    let conjoined = and_parts (con s.falsity 0 && con s.truth 0 && nat_lt s.falsity.0 s.truth.0 && con s.nil 0 && con s.cons 2)
    (conjoins program (body_of program s.both)) second.0 in
    let first = five_parts (con s.falsity 0) (con s.truth 0) (nat_lt s.falsity.0 s.truth.0) (con s.nil 0) (con s.cons 2) conjoined.0 in
    record {
      falsity = arity_taken program s.falsity 0 first.0;
      truth = arity_taken program s.truth 0 first.1;
      ordered = ltb-true s.falsity.0 s.truth.0 first.2;
      nil = arity_taken program s.nil 0 first.3;
      cons = arity_taken program s.cons 2 first.4;
      both = both_there program s.both (slice_get program.functions s.both.0) refl first.0 first.1 all conjoined.1 second.1;
      values = values_taken program s.values last.1;
    }

-- ---- programs

abbrev pub sound_constructors : Code → Bool
sound_constructors program = list_all (λ constructor. is_arity constructor.arity) program.constructors

record Parts (program : Code) : Type 0 where
  constructors : IsTrue (sound_constructors program)
  functions : IsTrue (list_all (fits_function program) program.functions)
  special : IsTrue (has_special program)

parts_of : (program : Code) → IsTrue (is_well_formed program) → Parts program
parts_of program h =
    let constructors = sound_constructors program in
    let functions = list_all (fits_function program) program.functions in
    let cases = list_all (fits_case program) program.expressions in
    let last = and_parts (constructors && functions && cases) (has_special program) h in
    let prefix = and_parts constructors functions (and_parts (constructors && functions) cases last.0).0 in
    record { constructors = prefix.0; functions = prefix.1; special = last.1 }

pub program_valid : (program : Code) → IsTrue (is_well_formed program) → IsValid (program_of program)
program_valid program h =
    let parts = parts_of program h in
    record {
      constructors = parts.constructors;
      functions = all_pass (function_in program) (fits_function program) (valid.fits_function (program_of program)) (function_valid program)
          program.functions parts.functions;
      special = special_there program parts.functions parts.special;
    }

pub program_flat : (program : Code) → IsTrue (is_well_formed program) → IsTrue (is_flat (program_of program))
program_flat program h =
    all_pass (function_in program) (fits_function program) (λ function. is_flat_body function.body) (function_flat program) program.functions
    (parts_of program h).functions
