-- What is in scope where variables are bound, and which variables a term that fits uses.
use Rattle.std.proofs.Common.{◌≡◌, ℕ, Bool, true, false, cond, not, ◌&&◌, ◌||◌, List, [], ◌∷◌, ◌++◌, ◌⊎◌, inl, inr, IsTrue, filter, nat_eq, refl, ap, sym, subst, ◌∙◌}
use Rattle.std.specs.List.{list_all}
use Rattle.std.proofs.lemmas.Bool.{and_from, and_parts, eqb-true, not-true, or_left, or_right, true≢false}
use Rattle.std.proofs.lemmas.List.Folds.{list_any-append}
use Rattle.std.proofs.lemmas.Map.Views.{any-filter_same}
use Rattle.cu_calculus.specs.Program.{Program, arity_in}
use Rattle.cu_calculus.specs.Shape.{is_allowed, takes, takes_more}
use Rattle.cu_calculus.specs.Term as term
use Rattle.cu_calculus.specs.Term.{Alternatives, Term, Terms}
use Rattle.cu_calculus.specs.Valid.{also, also_all, but, fit_alternatives, fit_terms, fits_pattern, fits_term, holds, is_linear, term_count, variables_of}
use Rattle.cu_calculus.specs.WellFormed.{without}
use Rattle.cu_calculus.proofs.FlatFitting.{nat_eq_comm}
use Rattle.cu_flat.specs.Layout.{beside, binding, branches_use, some_uses, uses}

-- the variables that pass a test are in a scope
abbrev pub Holds : (ℕ → Bool) → List ℕ → Type 0
Holds test scope = (y : ℕ) → IsTrue (test y) → IsTrue (holds y scope)

-- ---- lists of variables

holds-append : (y : ℕ) (xs ys : List ℕ) → holds y (xs ++ ys) ≡ (holds y xs || holds y ys)
holds-append y xs ys = list_any-append (nat_eq y) xs ys

pub holds-filter : (y : ℕ) (test : ℕ → Bool) (xs : List ℕ) → holds y (filter test xs) ≡ (test y && holds y xs)
holds-filter y test xs = any-filter_same (nat_eq y) test (test y) (λ z e. ap test (sym (eqb-true y z e))) xs

-- what is true or false
either : (b : Bool) → (b ≡ true) ⊎ (b ≡ false)
either true = inl refl
either false = inr refl

beside-from : (xs : List ℕ) (y : ℕ) → holds y xs ≡ false → beside xs y ≡ true
beside-from xs y h = ap not h

beside-not : (xs : List ℕ) (y : ℕ) → IsTrue (beside xs y) → holds y xs ≡ false
beside-not xs y h = not-true (holds y xs) h

-- variables that pass a test beside others are in scope together with those
pub Holds-after : (test : ℕ → Bool) (scope xs : List ℕ) → Holds (λ y. beside xs y && test y) scope → Holds test (scope ++ xs)
Holds-after test scope xs held y h = by (either (holds y xs))
  where
    by : ((holds y xs ≡ true) ⊎ (holds y xs ≡ false)) → IsTrue (holds y (scope ++ xs))
    by (inl there) = holds-append y scope xs ∙ or_right (holds y scope) (holds y xs) there
    by (inr other) =
        holds-append y scope xs
        ∙ or_left (holds y scope) (holds y xs) (held y (and_from (beside xs y) (test y) (beside-from xs y other) h))

pub Holds-binding : (test : ℕ → Bool) (scope xs : List ℕ) → Holds (λ y. beside xs y && test y) scope → Holds test (binding xs scope)
Holds-binding test scope xs held =
    Holds-after test (filter (beside xs) scope) xs
    (λ y h. holds-filter y (beside xs) scope
    ∙ and_from (beside xs y) (holds y scope) (and_parts (beside xs y) (test y) h).0 (held y h))

-- variables other than x that are in scope
pub Holds-without : (test : ℕ → Bool) (x : ℕ) (scope : List ℕ) → ((y : ℕ) → IsTrue (test y) → IsTrue (not (nat_eq x y))) → Holds test scope
    → Holds test (without x scope)
Holds-without test x scope other held y h =
    holds-filter y (λ z. not (nat_eq x z)) scope ∙ and_from (not (nat_eq x y)) (holds y scope) (other y h) (held y h)

-- what is kept of a scope has what passes the test, and is in each scope that has that
pub Holds-kept : (test : ℕ → Bool) (scope : List ℕ) → Holds test scope → Holds test (filter test scope)
Holds-kept test scope held y h = holds-filter y test scope ∙ and_from (test y) (holds y scope) h (held y h)

all-next : (test : ℕ → Bool) (b : Bool) (x : ℕ) (xs : List ℕ) → (IsTrue b → IsTrue (test x)) → IsTrue (list_all test xs)
    → IsTrue (list_all test (cond b (x ∷ xs) xs))
all-next test true x xs here others = and_from (test x) (list_all test xs) (here refl) others
all-next test false x xs here others = others

pub kept-held : (test : ℕ → Bool) (scope actual : List ℕ) → Holds test actual → IsTrue (list_all (λ x. holds x actual) (filter test scope))
kept-held test [] actual held = refl
kept-held test (x ∷ scope) actual held =
    all-next (λ y. holds y actual) (test x) x (filter test scope) (held x) (kept-held test scope actual held)

-- ---- no variable twice

and_false : (b : Bool) → (b && false) ≡ false
and_false true = refl
and_false false = refl

linear-next : (b : Bool) (x : ℕ) (xs : List ℕ) → holds x xs ≡ false → IsTrue (is_linear xs) → IsTrue (is_linear (cond b (x ∷ xs) xs))
linear-next true x xs none others = and_from (not (holds x xs)) (is_linear xs) (ap not none) others
linear-next false x xs none others = others

pub linear-kept : (test : ℕ → Bool) (xs : List ℕ) → IsTrue (is_linear xs) → IsTrue (is_linear (filter test xs))
linear-kept test [] h = refl
linear-kept test (x ∷ xs) h =
    let parts = and_parts (not (holds x xs)) (is_linear xs) h in
    let none : holds x (filter test xs) ≡ false =
    holds-filter x test xs ∙ ap (λ b. test x && b) (not-true (holds x xs) parts.0) ∙ and_false (test x) in
    linear-next (test x) x (filter test xs) none (linear-kept test xs parts.1)

or_false : (a b : Bool) → a ≡ false → b ≡ false → (a || b) ≡ false
or_false a b p q = rw (p, q) refl

linear-append : (xs ys : List ℕ) → IsTrue (is_linear xs) → IsTrue (is_linear ys) → IsTrue (list_all (beside ys) xs)
    → IsTrue (is_linear (xs ++ ys))
linear-append [] ys first second apart = second
linear-append (x ∷ xs) ys first second apart =
    let parts = and_parts (not (holds x xs)) (is_linear xs) first in
    let others = and_parts (beside ys x) (list_all (beside ys) xs) apart in
    let none : holds x (xs ++ ys) ≡ false =
    holds-append x xs ys ∙ or_false (holds x xs) (holds x ys) (not-true (holds x xs) parts.0) (beside-not ys x others.0) in
    and_from (not (holds x (xs ++ ys))) (is_linear (xs ++ ys)) (ap not none) (linear-append xs ys parts.1 second others.1)

all-filter : (test : ℕ → Bool) (xs : List ℕ) → IsTrue (list_all test (filter test xs))
all-filter test [] = refl
all-filter test (x ∷ xs) = all-next test (test x) x (filter test xs) (λ h. h) (all-filter test xs)

pub linear-binding : (scope xs : List ℕ) → IsTrue (is_linear scope) → IsTrue (is_linear xs) → IsTrue (is_linear (binding xs scope))
linear-binding scope xs around bound =
    linear-append (filter (beside xs) scope) xs (linear-kept (beside xs) scope around) bound (all-filter (beside xs) scope)

-- ---- what terms use

-- either of two ways
or_either : {A : Type 0} (a b : Bool) → (IsTrue a → A) → (IsTrue b → A) → IsTrue (a || b) → A
or_either true b first second h = first refl
or_either false b first second h = second h

-- a variable that may stand after a binding, beside what is bound there, may stand before it
also-beside : (x : ℕ) (may : ℕ → Bool) (y : ℕ) → IsTrue (beside (x ∷ []) y) → IsTrue (also x may y) → IsTrue (may y)
also-beside x may y other h =
    or_either (nat_eq x y) (may y) (λ same. absurd (true≢false (sym same ∙ nat_eq_comm x y ∙ or_false_left (nat_eq y x) (beside-not (x ∷ []) y other))))
    (λ there. there) h
  where
    or_false_left : (b : Bool) → (b || false) ≡ false → b ≡ false
    or_false_left true e = e
    or_false_left false e = e

also_all-beside : (xs : List ℕ) (may : ℕ → Bool) (y : ℕ) → IsTrue (beside xs y) → IsTrue (also_all xs may y) → IsTrue (may y)
also_all-beside xs may y other h =
    or_either (holds y xs) (may y) (λ same. absurd (true≢false (sym same ∙ beside-not xs y other))) (λ there. there) h

-- a term that fits uses only variables that may stand in it
mutual
  pub uses-may : (program : Program) (may : ℕ → Bool) (t : Term) (y : ℕ) → IsTrue (fits_term program may t) → IsTrue (uses t y) → IsTrue (may y)
  uses-may program may (term.Variable x) y fit h = subst (λ (z : ℕ). IsTrue (may z)) (eqb-true x y h) fit
  uses-may program may (term.Literal l) y fit h = absurd (true≢false (sym h))
  uses-may program may (term.Whole k ts) y fit h =
      some_uses-may program may ts y (and_parts (is_allowed program k && takes (arity_in program k) (term_count ts)) (fit_terms program may ts) fit).1 h
  uses-may program may (term.Part k ts) y fit h =
      some_uses-may program may ts y (and_parts (is_allowed program k && takes_more (arity_in program k) (term_count ts)) (fit_terms program may ts) fit).1 h
  uses-may program may (term.Apply f a) y fit h =
      let parts = and_parts (fits_term program may f) (fits_term program may a) fit in
      or_either (uses f y) (uses a y) (uses-may program may f y parts.0) (uses-may program may a y parts.1) h
  uses-may program may (term.Let x a b) y fit h =
      let parts = and_parts (fits_term program (but x may) a) (fits_term program (also x may) b) fit in
      or_either (uses a y) (beside (x ∷ []) y && uses b y)
      (λ here. (and_parts (not (nat_eq x y)) (may y) (uses-may program (but x may) a y parts.0 here)).1)
      (λ here. let both = and_parts (beside (x ∷ []) y) (uses b y) here in
      also-beside x may y both.0 (uses-may program (also x may) b y parts.1 both.1)) h
  uses-may program may (term.Free x t) y fit h =
      let both = and_parts (beside (x ∷ []) y) (uses t y) h in
      also-beside x may y both.0 (uses-may program (also x may) t y fit both.1)
  uses-may program may (term.Or a b) y fit h =
      let parts = and_parts (fits_term program may a) (fits_term program may b) fit in
      or_either (uses a y) (uses b y) (uses-may program may a y parts.0) (uses-may program may b y parts.1) h
  uses-may program may (term.Case mode a alternatives) y fit h =
      let parts = and_parts (fits_term program may a) (fit_alternatives program may alternatives) fit in
      or_either (uses a y) (branches_use alternatives y) (uses-may program may a y parts.0) (branches_use-may program may alternatives y parts.1) h

  some_uses-may : (program : Program) (may : ℕ → Bool) (ts : Terms) (y : ℕ) → IsTrue (fit_terms program may ts) → IsTrue (some_uses ts y) → IsTrue (may y)
  some_uses-may program may term.NoTerm y fit h = absurd (true≢false (sym h))
  some_uses-may program may (term.MoreTerms t ts) y fit h =
      let parts = and_parts (fits_term program may t) (fit_terms program may ts) fit in
      or_either (uses t y) (some_uses ts y) (uses-may program may t y parts.0) (some_uses-may program may ts y parts.1) h

  branches_use-may : (program : Program) (may : ℕ → Bool) (alternatives : Alternatives) (y : ℕ) → IsTrue (fit_alternatives program may alternatives)
      → IsTrue (branches_use alternatives y) → IsTrue (may y)
  branches_use-may program may term.NoAlternative y fit h = absurd (true≢false (sym h))
  branches_use-may program may (term.MoreAlternatives p t alternatives) y fit h =
      let head = fits_pattern program p && is_linear (variables_of p) in
      let parts = and_parts (head && fits_term program (also_all (variables_of p) may) t) (fit_alternatives program may alternatives) fit in
      let inner = (and_parts head (fits_term program (also_all (variables_of p) may) t) parts.0).1 in
      or_either (beside (variables_of p) y && uses t y) (branches_use alternatives y)
      (λ here. let both = and_parts (beside (variables_of p) y) (uses t y) here in
      also_all-beside (variables_of p) may y both.0 (uses-may program (also_all (variables_of p) may) t y inner both.1))
      (branches_use-may program may alternatives y parts.1) h
