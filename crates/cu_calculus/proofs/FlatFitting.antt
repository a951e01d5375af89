-- The terms of expressions that fit fit in the same scope, in the code's program.
use Rattle.std.proofs.Common.{◌≡◌, ℕ, zero, suc, Bool, true, false, not, ◌&&◌, ◌||◌, List, [], ◌∷◌, ◌++◌, Option, None, Some, ◌⊎◌, inl, inr, IsTrue, length, nat_eq, slice_get, option_map, refl, ap, sym, subst, ◌∙◌, arith}
use Rattle.std.specs.List.{list_all, list_any}
use Rattle.std.proofs.lemmas.Bool.{and_from, and_parts, cases_eq, eqb-true, ne_eqb, or_cases, or_left, or_right, true≢false}
use Rattle.std.proofs.lemmas.Map.Views.{any-filter_same}
use Rattle.std.proofs.lemmas.Option.{slice_get-map}
use Rattle.cu_calculus.specs.declared.ExprId.{ExprId}
use Rattle.cu_calculus.specs.declared.FunId.{FunId}
use Rattle.cu_calculus.specs.declared.Head.{Head}
use Rattle.cu_calculus.specs.declared.Head.TheVariants as head
use Rattle.cu_calculus.specs.Code as code
use Rattle.cu_calculus.specs.Code.{Branch, Code, Expr, Shallow, arity_of, expr_of, function_arity}
use Rattle.cu_calculus.specs.Flat.{are_flat_alternatives, are_flat_terms, are_variables, demands_of, is_flat, is_flat_body, is_flat_term, is_shallow, same_demand}
use Rattle.cu_calculus.specs.Flat as flat
use Rattle.cu_calculus.specs.FlatProgram.{all_any, alternatives_of, function_in, pattern_of, program_of, term_over, term_within, terms_of}
use Rattle.cu_calculus.specs.Choose.{demand_of}
use Rattle.cu_calculus.specs.Program.{Constructor, Program, arity_in, function_of}
use Rattle.cu_calculus.specs.Shape as shape
use Rattle.cu_calculus.specs.Shape.{takes, takes_more}
use Rattle.cu_calculus.specs.Term.{Term}
use Rattle.cu_calculus.specs.Valid as valid
use Rattle.cu_calculus.specs.Valid.{all_variables, also, also_all, but, external_arity, fit_alternatives, fit_patterns, fit_terms, fits_term, holds, is_arity, is_linear, pattern_count, term_count, variables_of}
use Rattle.cu_calculus.specs.WellFormed.{all_differ, bound_by, fit_branches, fits, fits_expr, fits_pattern, is_allowed, same_pattern, without}
use Rattle.cu_calculus.proofs.FlatTerms.{branches_fit, fits_branch}
use Rattle.cu_calculus.proofs.Fitting.{Wider, both_wider, fits_wider, or_wider}

-- ---- tests

or_assoc : (a b c : Bool) → (a || (b || c)) ≡ ((a || b) || c)
or_assoc true b c = refl
or_assoc false b c = refl

or_swap : (a b : Bool) → IsTrue (a || b) → IsTrue (b || a)
or_swap true b h = or_right b true refl
or_swap false b h = or_left b false h

-- equality of numbers, either way round
pub nat_eq_comm : (m n : ℕ) → nat_eq m n ≡ nat_eq n m
nat_eq_comm m n = by (cases_eq m n)
  where
    by : ((m ≡ n) ⊎ (m ≡ n → ⊥)) → nat_eq m n ≡ nat_eq n m
    by (inl same) = subst (λ (k : ℕ). nat_eq m k ≡ nat_eq k m) same refl
    by (inr other) = ne_eqb m n other ∙ sym (ne_eqb n m (λ same. other (sym same)))

or_false : (a b : Bool) → IsTrue ((a || false) || b) → IsTrue (a || b)
or_false true b h = refl
or_false false b h = h

-- ---- heads

pub function_there : (program : Code) (f : FunId) → function_of (program_of program) f ≡ option_map (function_in program) (slice_get program.functions f.0)
function_there program f = slice_get-map (function_in program) program.functions f.0

arity_mapped : (program : Code) (o : Option code.Function)
    → option_map (λ function. function.arity) (option_map (function_in program) o) ≡ elim o [ Some function ↦ Some function.arity | None ↦ None ]
arity_mapped program None = refl
arity_mapped program (Some function) = refl

function_arity_kept : (program : Code) (f : FunId) → arity_in (program_of program) (head.Fun f) ≡ function_arity program f
function_arity_kept program f =
    ap (option_map (λ function. function.arity)) (function_there program f) ∙ arity_mapped program (slice_get program.functions f.0)

constructor_arity_kept : (o : Option Constructor)
    → option_map (λ constructor. constructor.arity) o ≡ elim o [ Some constructor ↦ Some constructor.arity | None ↦ None ]
constructor_arity_kept None = refl
constructor_arity_kept (Some constructor) = refl

pub arity_kept : (program : Code) (h : Head) → arity_in (program_of program) h ≡ arity_of program h
arity_kept program (head.Fun f) = function_arity_kept program f
arity_kept program (head.Con c) = constructor_arity_kept (slice_get program.constructors c.0)
arity_kept program (head.Set f) = function_arity_kept program f

allowed_kept : (program : Code) (h : Head) → shape.is_allowed (program_of program) h ≡ is_allowed program h
allowed_kept program (head.Fun f) = refl
allowed_kept program (head.Con c) = refl
allowed_kept program (head.Set f) = refl

-- ---- patterns

pub any_count : (xs : List ℕ) → pattern_count (all_any xs) ≡ length xs
any_count [] = refl
any_count (x ∷ xs) = let rest = any_count xs in omega arith

pub any_fit : (program : Program) (xs : List ℕ) → fit_patterns program (all_any xs) ≡ true
any_fit program [] = refl
any_fit program (x ∷ xs) = any_fit program xs

pub any_variables : (xs : List ℕ) → all_variables (all_any xs) ≡ xs
any_variables [] = refl
any_variables (x ∷ xs) = ap (λ ys. x ∷ ys) (any_variables xs)

pub any_are_variables : (xs : List ℕ) → are_variables (all_any xs) ≡ true
any_are_variables [] = refl
any_are_variables (x ∷ xs) = any_are_variables xs

variables_kept : (p : Shallow) → variables_of (pattern_of p) ≡ bound_by p
variables_kept (code.Exactly l) = refl
variables_kept (code.Built c xs) = any_variables xs

pattern_fits : (program : Code) (p : Shallow) → IsTrue (fits_pattern program p)
    → IsTrue (valid.fits_pattern (program_of program) (pattern_of p)) × IsTrue (is_linear (variables_of (pattern_of p)))
pattern_fits program (code.Exactly l) h = (h, refl)
pattern_fits program (code.Built c xs) h =
    let parts = and_parts (takes (arity_of program (head.Con c)) (length xs)) (is_linear xs) h in
    let P = program_of program in
    let arity : takes (arity_in P (head.Con c)) (pattern_count (all_any xs)) ≡ true =
    rw (arity_kept program (head.Con c), any_count xs) parts.0 in (
      and_from (takes (arity_in P (head.Con c)) (pattern_count (all_any xs))) (fit_patterns P (all_any xs)) arity (any_fit P xs),
      subst (λ (ys : List ℕ). IsTrue (is_linear ys)) (sym (any_variables xs)) parts.1,
    )

pub shallow_kept : (p : Shallow) → is_shallow (pattern_of p) ≡ true
shallow_kept (code.Exactly l) = refl
shallow_kept (code.Built c xs) = any_are_variables xs

demand_kept : (p q : Shallow) → same_demand (demand_of (pattern_of p)) (demand_of (pattern_of q)) ≡ same_pattern p q
demand_kept (code.Exactly l) (code.Exactly m) = refl
demand_kept (code.Exactly l) (code.Built d ys) = refl
demand_kept (code.Built c xs) (code.Exactly m) = refl
demand_kept (code.Built c xs) (code.Built d ys) = refl

demands_kept : (t : ExprId → Term) (p : Shallow) (branches : List Branch)
    → list_any (same_demand (demand_of (pattern_of p))) (demands_of (alternatives_of t branches)) ≡ list_any (λ other. same_pattern p other.pattern) branches
demands_kept t p [] = refl
demands_kept t p (branch ∷ branches) = rw (demand_kept p branch.pattern, demands_kept t p branches) refl

pub differ_kept : (t : ExprId → Term) (branches : List Branch) → flat.all_differ (demands_of (alternatives_of t branches)) ≡ all_differ branches
differ_kept t [] = refl
differ_kept t (branch ∷ branches) = rw (demands_kept t branch.pattern branches, differ_kept t branches) refl

-- ---- scopes

holds_parts : (y : ℕ) (xs ys : List ℕ) → holds y (xs ++ ys) ≡ (holds y xs || holds y ys)
holds_parts y [] ys = refl
holds_parts y (x ∷ xs) ys = rw (holds_parts y xs ys) (or_assoc (nat_eq y x) (holds y xs) (holds y ys))

-- what is in scope with a list of variables after it
held_after : (y : ℕ) (xs ys : List ℕ) → IsTrue (holds y (xs ++ ys)) → IsTrue (holds y ys || holds y xs)
held_after y xs ys h = or_swap (holds y xs) (holds y ys) (subst (λ (b : Bool). IsTrue b) (holds_parts y xs ys) h)

held_last : (x : ℕ) (xs : List ℕ) → Wider (λ y. holds y (xs ++ x ∷ [])) (also x (λ y. holds y xs))
held_last x xs y h = last (held_after y xs (x ∷ []) h)
  where
    last : IsTrue ((nat_eq y x || false) || holds y xs) → IsTrue (nat_eq x y || holds y xs)
    last held = rw (nat_eq_comm x y) (or_false (nat_eq y x) (holds y xs) held)

held_without : (x : ℕ) (scope : List ℕ) → Wider (λ y. holds y (without x scope)) (but x (λ y. holds y scope))
held_without x scope y h =
    let same : holds y (without x scope) ≡ (not (nat_eq x y) && holds y scope) =
    any-filter_same (nat_eq y) (λ z. not (nat_eq x z)) (not (nat_eq x y)) (λ z e. ap (λ w. not (nat_eq x w)) (sym (eqb-true y z e))) scope in
    sym same ∙ h

kept_from : (y x : ℕ) (scope kept : List ℕ) → IsTrue (holds x scope) → (IsTrue (holds y kept) → IsTrue (holds y scope)) → IsTrue (nat_eq y x || holds y kept)
    → IsTrue (holds y scope)
kept_from y x scope kept here deeper h = by (or_cases (nat_eq y x) (holds y kept) h)
  where
    by : ((nat_eq y x ≡ true) ⊎ (holds y kept ≡ true)) → IsTrue (holds y scope)
    by (inl same) = subst (λ (z : ℕ). IsTrue (holds z scope)) (sym (eqb-true y x same)) here
    by (inr there) = deeper there

-- what is kept is in scope
kept_there : (scope kept : List ℕ) → IsTrue (list_all (λ x. holds x scope) kept) → Wider (λ y. holds y kept) (λ y. holds y scope)
kept_there scope [] all y h = absurd (true≢false (sym h))
kept_there scope (x ∷ kept) all y h =
    let parts = and_parts (holds x scope) (list_all (λ z. holds z scope) kept) all in
    kept_from y x scope kept parts.0 (kept_there scope kept parts.1 y) h

kept_with : (scope kept xs : List ℕ) → IsTrue (list_all (λ x. holds x scope) kept) → Wider (λ y. holds y (kept ++ xs)) (also_all xs (λ y. holds y scope))
kept_with scope kept xs all y h = or_wider (holds y xs) (holds y kept) (holds y scope) (kept_there scope kept all y) (held_after y kept xs h)

-- ---- terms

-- expressions that pass a test in a scope have terms that fit there
abbrev pub Fitting : Code → (List ℕ → ExprId → Bool) → (ExprId → Term) → Type 0
Fitting program part t = (scope : List ℕ) (e : ExprId) → IsTrue (part scope e) → IsTrue (fits_term (program_of program) (λ y. holds y scope) (t e))

terms_count : (t : ExprId → Term) (es : List ExprId) → term_count (terms_of t es) ≡ length es
terms_count t [] = refl
terms_count t (e ∷ es) = let rest = terms_count t es in omega arith

terms_fit : (program : Code) (part : List ℕ → ExprId → Bool) (t : ExprId → Term) (scope : List ℕ) (es : List ExprId) → Fitting program part t
    → IsTrue (list_all (part scope) es) → IsTrue (fit_terms (program_of program) (λ y. holds y scope) (terms_of t es))
terms_fit program part t scope [] fit h = refl
terms_fit program part t scope (e ∷ es) fit h =
    let may : ℕ → Bool = λ y. holds y scope in
    let parts = and_parts (part scope e) (list_all (part scope) es) h in
    and_from (fits_term (program_of program) may (t e)) (fit_terms (program_of program) may (terms_of t es)) (fit scope e parts.0)
    (terms_fit program part t scope es fit parts.1)

alternatives_fit : (program : Code) (part : List ℕ → ExprId → Bool) (t : ExprId → Term) (scope kept : List ℕ) (branches : List Branch)
    → Fitting program part t → IsTrue (list_all (λ x. holds x scope) kept) → IsTrue (list_all (fits_branch part program kept) branches)
    → IsTrue (fit_alternatives (program_of program) (λ y. holds y scope) (alternatives_of t branches))
alternatives_fit program part t scope kept [] fit all h = refl
alternatives_fit program part t scope kept (branch ∷ branches) fit all h =
    let P = program_of program in
    let may : ℕ → Bool = λ y. holds y scope in
    let p = pattern_of branch.pattern in
    let parts = and_parts (fits_branch part program kept branch) (list_all (fits_branch part program kept) branches) h in
    let here = and_parts (fits_pattern program branch.pattern) (part (kept ++ bound_by branch.pattern) branch.body) parts.0 in
    let pattern = pattern_fits program branch.pattern here.0 in
    let body : IsTrue (fits_term P (also_all (bound_by branch.pattern) may) (t branch.body)) =
    fits_wider P (λ y. holds y (kept ++ bound_by branch.pattern)) (also_all (bound_by branch.pattern) may) (t branch.body)
    (kept_with scope kept (bound_by branch.pattern) all) (fit (kept ++ bound_by branch.pattern) branch.body here.1) in
    let named : IsTrue (fits_term P (also_all (variables_of p) may) (t branch.body)) =
    subst (λ (xs : List ℕ). IsTrue (fits_term P (also_all xs may) (t branch.body))) (sym (variables_kept branch.pattern)) body in
    let alike = valid.fits_pattern P p && is_linear (variables_of p) in
    and_from (alike && fits_term P (also_all (variables_of p) may) (t branch.body)) (fit_alternatives P may (alternatives_of t branches))
    (and_from alike (fits_term P (also_all (variables_of p) may) (t branch.body))
    (and_from (valid.fits_pattern P p) (is_linear (variables_of p)) pattern.0 pattern.1) named)
    (alternatives_fit program part t scope kept branches fit all parts.1)

headed_fit : (program : Code) (t : ExprId → Term) (scope : List ℕ) (h : Head) (es : List ExprId) (enough : Option ℕ → ℕ → Bool) (rest : Bool)
    → IsTrue (is_allowed program h && enough (arity_of program h) (length es) && rest)
    → IsTrue (fit_terms (program_of program) (λ y. holds y scope) (terms_of t es))
    → IsTrue (shape.is_allowed (program_of program) h && enough (arity_in (program_of program) h) (term_count (terms_of t es))
    && fit_terms (program_of program) (λ y. holds y scope) (terms_of t es))
headed_fit program t scope h es enough rest fit terms =
    let head_fits = is_allowed program h && enough (arity_of program h) (length es) in
    rw (allowed_kept program h, arity_kept program h, terms_count t es)
    (and_from head_fits (fit_terms (program_of program) (λ y. holds y scope) (terms_of t es)) (and_parts head_fits rest fit).0 terms)

over_fits : (program : Code) (part : List ℕ → ExprId → Bool) (t : ExprId → Term) (scope : List ℕ) (o : Option Expr) → Fitting program part t
    → IsTrue (fits_expr part program scope o) → IsTrue (fits_term (program_of program) (λ y. holds y scope) (term_over t o))
over_fits program part t scope None fit h = absurd (true≢false (sym h))
over_fits program part t scope (Some (code.Variable x)) fit h = h
over_fits program part t scope (Some (code.Literal l)) fit h = h
over_fits program part t scope (Some (code.Whole k es)) fit h =
    let all = list_all (part scope) es in
    headed_fit program t scope k es takes all h
    (terms_fit program part t scope es fit (and_parts (is_allowed program k && takes (arity_of program k) (length es)) all h).1)
over_fits program part t scope (Some (code.Part k es)) fit h =
    let all = list_all (part scope) es in
    headed_fit program t scope k es takes_more all h
    (terms_fit program part t scope es fit (and_parts (is_allowed program k && takes_more (arity_of program k) (length es)) all h).1)
over_fits program part t scope (Some (code.Apply function argument)) fit h =
    both_wider (part scope function) (part scope argument) (fits_term (program_of program) (λ y. holds y scope) (t function))
    (fits_term (program_of program) (λ y. holds y scope) (t argument)) (fit scope function) (fit scope argument) h
over_fits program part t scope (Some (code.Let x bound body)) fit h =
    let P = program_of program in
    let may : ℕ → Bool = λ y. holds y scope in
    both_wider (part (without x scope) bound) (part (scope ++ x ∷ []) body) (fits_term P (but x may) (t bound)) (fits_term P (also x may) (t body))
    (λ k. fits_wider P (λ y. holds y (without x scope)) (but x may) (t bound) (held_without x scope) (fit (without x scope) bound k))
    (λ k. fits_wider P (λ y. holds y (scope ++ x ∷ [])) (also x may) (t body) (held_last x scope) (fit (scope ++ x ∷ []) body k)) h
over_fits program part t scope (Some (code.Free x body)) fit h =
    fits_wider (program_of program) (λ y. holds y (scope ++ x ∷ [])) (also x (λ y. holds y scope)) (t body) (held_last x scope)
    (fit (scope ++ x ∷ []) body h)
over_fits program part t scope (Some (code.Or left right)) fit h =
    both_wider (part scope left) (part scope right) (fits_term (program_of program) (λ y. holds y scope) (t left))
    (fits_term (program_of program) (λ y. holds y scope) (t right)) (fit scope left) (fit scope right) h
over_fits program part t scope (Some (code.Case mode kept e branches)) fit h =
    let may : ℕ → Bool = λ y. holds y scope in
    let all = list_all (λ x. holds x scope) kept in
    let parts = and_parts (all && part scope e) (fit_branches part program kept branches) h in
    let prefix = and_parts all (part scope e) parts.0 in
    and_from (fits_term (program_of program) may (t e)) (fit_alternatives (program_of program) may (alternatives_of t branches))
    (fit scope e prefix.1)
    (alternatives_fit program part t scope kept branches fit prefix.0 (branches_fit part program kept branches parts.1).1)

pub within_fits : (program : Code) (depth : ℕ) → Fitting program (fits depth program) (term_within depth program)
unfolding term_within
within_fits program zero scope e h = absurd (true≢false (sym h))
within_fits program (suc depth) scope e h =
    over_fits program (fits depth program) (term_within depth program) scope (expr_of program e) (within_fits program depth) h
