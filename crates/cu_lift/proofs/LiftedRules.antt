-- Lifted rules fit a program.
use Rattle.std.proofs.Common.{◌≡◌, ℕ, zero, suc, ◌+◌, Bool, true, false, ◌&&◌, List, [], ◌∷◌, ◌++◌, length, Some, IsTrue, map, nat_eq, nat_lt, not, slice_get, take, drop, refl, ap, sym, ◌∙◌, subst, arith, add-one}
use Rattle.std.specs.List.{flat_map, list_all, list_any}
use Rattle.std.proofs.lemmas.Bool.{and_from, and_parts, cases_Bool, eqb-true, eq-eqb, ltb-true, not_from_false, or_cases, or_left, or_right}
use Rattle.std.proofs.lemmas.List.Concat.{flat_map-append}
use Rattle.cu_calculus.proofs.Lists.{passed_at}
use Rattle.cu_calculus.specs.Program as calculus
use Rattle.cu_calculus.specs.Term as clean
use Rattle.cu_calculus.specs.Valid.{all_variables, fit_patterns, fits_body, fits_rule, fits_term, holds, is_arity, is_linear, pattern_count}
use Rattle.cu_kernel.specs.Captures as captures
use Rattle.cu_kernel.specs.Captures.{AreCaptured, Captures, IsFree, are_rising, is_local, no_head, rule_uses, rules_use, uses}
use Rattle.cu_kernel.specs.LocalKernel as kernel
use Rattle.cu_kernel.specs.LocalKernel.{LocalBody, LocalFunction, LocalRule, TopFunction}
use Rattle.cu_kernel.specs.LocalTerm.{LocalTerm}
use Rattle.cu_kernel.specs.LocalValid.{IsScoped, all_rules, binders, fits_arity, fits_local, global_heads, has_arity, local_binders, local_heads, local_rules, patterns_pass, rule_binders, rule_lets, rule_passes, rules_binders, rules_of, term_passes}
use Rattle.cu_lift.proofs.LiftedTerms.{FreeBy, HeadsFit, IsCalm, calm_left, calm_right, either, held_either, held_left, held_right, is_free, linear_apart, linear_from, linear_left, linear_right, not_from_never, own, patterns_fit, term_fits, through}
use Rattle.cu_lift.specs.Lifting.{Lifting, after_parameters, lifted_body, lifted_rule, lifted_term}

-- ---- parts of lists

-- What holds of a list that is put together holds of its parts.
pub one_part : {A B : Type 0} (holds_of : List B → Type 0) → ((xs ys : List B) → holds_of (xs ++ ys) → holds_of xs)
    → ((xs ys : List B) → holds_of (xs ++ ys) → holds_of ys) → (f : A → List B) (xs : List A) (k : ℕ) (x : A) → slice_get xs k ≡ Some x
    → holds_of (flat_map f xs) → holds_of (f x)
one_part holds_of left right f [] k x at h = let no : ⊥ = cc in absurd no
one_part holds_of left right f (y ∷ xs) zero x at h =
    let same : y ≡ x = cc in subst (λ z. holds_of (f z)) same (left (f y) (flat_map f xs) h)
one_part holds_of left right f (y ∷ xs) (suc k) x at h = one_part holds_of left right f xs k x at (right (f y) (flat_map f xs) h)

pub all_left : {A : Type 0} (test : A → Bool) (xs ys : List A) → IsTrue (list_all test (xs ++ ys)) → IsTrue (list_all test xs)
all_left test [] ys h = refl
all_left test (x ∷ xs) ys h =
    let parts = and_parts (test x) (list_all test (xs ++ ys)) h in and_from (test x) (list_all test xs) parts.0 (all_left test xs ys parts.1)

pub all_right : {A : Type 0} (test : A → Bool) (xs ys : List A) → IsTrue (list_all test (xs ++ ys)) → IsTrue (list_all test ys)
all_right test [] ys h = h
all_right test (x ∷ xs) ys h = all_right test xs ys (and_parts (test x) (list_all test (xs ++ ys)) h).1

held_part : {A : Type 0} (v : ℕ) (f : A → List ℕ) (xs : List A) (k : ℕ) (x : A) → slice_get xs k ≡ Some x → IsTrue (holds v (f x))
    → IsTrue (holds v (flat_map f xs))
held_part v f [] k x at h = let no : ⊥ = cc in absurd no
held_part v f (y ∷ xs) zero x at h =
    let same : y ≡ x = cc in held_left v (f y) (flat_map f xs) (subst (λ z. IsTrue (holds v (f z))) (sym same) h)
held_part v f (y ∷ xs) (suc k) x at h = held_right v (f y) (flat_map f xs) (held_part v f xs k x at h)

any_at : {A : Type 0} (test : A → Bool) (xs : List A) (k : ℕ) (x : A) → slice_get xs k ≡ Some x → IsTrue (test x) → IsTrue (list_any test xs)
any_at test [] k x at h = let no : ⊥ = cc in absurd no
any_at test (y ∷ xs) zero x at h = let same : y ≡ x = cc in or_left (test y) (list_any test xs) (ap test same ∙ h)
any_at test (y ∷ xs) (suc k) x at h = or_right (test y) (list_any test xs) (any_at test xs k x at h)

pub all_mapped : {A B : Type 0} (test : B → Bool) (f : A → B) (xs : List A)
    → ((k : ℕ) (x : A) → slice_get xs k ≡ Some x → IsTrue (test (f x))) → IsTrue (list_all test (map f xs))
all_mapped test f [] each = refl
all_mapped test f (x ∷ xs) each =
    and_from (test (f x)) (list_all test (map f xs)) (each zero x refl) (all_mapped test f xs (λ k y at. each (suc k) y at))

-- what stands in one part stands in none of the others
part_apart : {A : Type 0} (v : ℕ) (f : A → List ℕ) (xs : List A) (k : ℕ) (x : A) → slice_get xs k ≡ Some x
    → IsTrue (is_linear (flat_map f xs)) → IsTrue (holds v (flat_map f (take k xs) ++ flat_map f (drop (suc k) xs)))
    → IsTrue (holds v (f x)) → ⊥
part_apart v f [] k x at once others mine = let no : ⊥ = cc in absurd no
part_apart v f (y ∷ xs) zero x at once others mine =
    let same : y ≡ x = cc in
    linear_apart v (f y) (flat_map f xs) once (subst (λ z. IsTrue (holds v (f z))) (sym same) mine) others
part_apart v f (y ∷ xs) (suc k) x at once others mine =
    let prefix = flat_map f (take k xs) in let rest = flat_map f (drop (suc k) xs) in
    either (held_either v (f y ++ prefix) rest others)
    (λ e. either (held_either v (f y) prefix e)
    (λ d. linear_apart v (f y) (flat_map f xs) once d (held_part v f xs k x at mine))
    (λ d. part_apart v f xs k x at (linear_right (f y) (flat_map f xs) once) (held_left v prefix rest d) mine))
    (λ e. part_apart v f xs k x at (linear_right (f y) (flat_map f xs) once) (held_right v prefix rest e) mine)

-- ---- one rule

-- what is right of a rule before lifting
pub record IsRight (locals : List LocalFunction) (heads : calculus.Program) (rule : LocalRule) : Type 0 where
  pub inner : IsTrue (rule_passes (local_heads locals) rule)
  pub outer : IsTrue (rule_passes (global_heads heads) rule)
  pub once : IsTrue (is_linear (rule_binders rule))
  pub calm : IsCalm locals (rule_lets rule)

count_parameters : (xs : List ℕ) (ps : clean.Patterns) → pattern_count (after_parameters xs ps) ≡ length xs + pattern_count ps
count_parameters [] ps = omega arith
count_parameters (x ∷ xs) ps = let rest = count_parameters xs ps in omega (arith, rest)

parameters_fit : (program : calculus.Program) (xs : List ℕ) (ps : clean.Patterns) → IsTrue (fit_patterns program ps)
    → IsTrue (fit_patterns program (after_parameters xs ps))
parameters_fit program [] ps h = h
parameters_fit program (x ∷ xs) ps h = and_from true (fit_patterns program (after_parameters xs ps)) refl (parameters_fit program xs ps h)

variables_after : (xs : List ℕ) (ps : clean.Patterns) → all_variables (after_parameters xs ps) ≡ xs ++ all_variables ps
variables_after [] ps = refl
variables_after (x ∷ xs) ps = ap (λ ys. x ∷ ys) (variables_after xs ps)

pub rule_fits : (locals : List LocalFunction) (l : Lifting) (heads program : calculus.Program) → HeadsFit locals l heads program
    → (xs : List ℕ) (arity : ℕ) (rule : LocalRule) → IsRight locals heads rule → IsTrue (has_arity arity rule) → IsTrue (is_linear xs)
    → ((v : ℕ) → IsTrue (holds v xs) → IsTrue (holds v (all_variables rule.params)) → ⊥)
    → ((v : ℕ) → FreeBy locals v (λ c. uses c v rule.body) → IsTrue (holds v (xs ++ all_variables rule.params)))
    → IsTrue (fits_rule program (length xs + arity) (lifted_rule l xs rule))
rule_fits locals l heads program fit xs arity rule right count linear apart bound =
    let ps = rule.params in
    let whole = after_parameters xs ps in
    let inner = and_parts (patterns_pass (local_heads locals) ps) (term_passes (local_heads locals) rule.body) right.inner in
    let outer = and_parts (patterns_pass (global_heads heads) ps) (term_passes (global_heads heads) rule.body) right.outer in
    let number : pattern_count ps ≡ arity = eqb-true (pattern_count ps) arity count in
    let as_many : pattern_count whole ≡ length xs + arity = count_parameters xs ps ∙ ap (λ n. length xs + n) number in
    let vs = variables_after xs ps in
    let different : IsTrue (is_linear (all_variables whole)) =
    subst (λ (ys : List ℕ). IsTrue (is_linear ys)) (sym vs)
    (linear_from xs (all_variables ps) linear (linear_left (all_variables ps) (binders rule.body) right.once) apart) in
    let may : ℕ → Bool = λ x. holds x (all_variables whole) in
    let term : IsTrue (fits_term program may (lifted_term l rule.body)) =
    term_fits locals l heads program fit may rule.body inner.1 outer.1 (linear_right (all_variables ps) (binders rule.body) right.once) right.calm
    (λ v free. subst (λ (ys : List ℕ). IsTrue (holds v ys)) (sym vs) (bound v free)) in
    let first = nat_eq (pattern_count whole) (length xs + arity) in
    let second = fit_patterns program whole in
    let third = is_linear (all_variables whole) in
    and_from (first && second && third) (fits_term program may (lifted_term l rule.body))
    (and_from (first && second) third
    (and_from first second (eq-eqb (pattern_count whole) (length xs + arity) as_many)
    (parameters_fit program xs ps (patterns_fit locals l heads program fit ps outer.0))) different) term

-- ---- the rules of a top-level function and its local functions

-- the rules of the function itself, and those of one of its local functions
pub own_right : (heads : calculus.Program) (f : TopFunction) → IsScoped f → IsTrue (list_all (rule_passes (global_heads heads)) (all_rules f))
    → (k : ℕ) (rule : LocalRule) → slice_get (rules_of f.body) k ≡ Some rule → IsRight f.locals heads rule
own_right heads f scoped outer k rule at =
    let mine = rules_of f.body in let others = flat_map local_rules f.locals in
    let calm : IsCalm f.locals (flat_map rule_lets mine ++ flat_map rule_lets others) =
    subst (λ (ls : List (ℕ × LocalTerm)). IsCalm f.locals ls) (flat_map-append rule_lets mine others)
    (record { calm = λ j x a e free. scoped.lets j x a e (is_free f.locals x a free) }) in
    record {
      inner = passed_at (rule_passes (local_heads f.locals)) mine k rule (all_left (rule_passes (local_heads f.locals)) mine others scoped.calls) at;
      outer = passed_at (rule_passes (global_heads heads)) mine k rule (all_left (rule_passes (global_heads heads)) mine others outer) at;
      once = one_part (λ (xs : List ℕ). IsTrue (is_linear xs)) linear_left linear_right rule_binders mine k rule at
          (linear_left (rules_binders mine) (flat_map local_binders f.locals) scoped.once);
      calm = one_part (λ (ls : List (ℕ × LocalTerm)). IsCalm f.locals ls) (calm_left f.locals) (calm_right f.locals) rule_lets mine k rule at
          (calm_left f.locals (flat_map rule_lets mine) (flat_map rule_lets others) calm);
    }

calm_rules : (locals fs : List LocalFunction) (j : ℕ) (g : LocalFunction) → slice_get fs j ≡ Some g
    → IsCalm locals (flat_map rule_lets (flat_map local_rules fs)) → IsCalm locals (flat_map rule_lets g.rules)
calm_rules locals [] j g at calm = let no : ⊥ = cc in absurd no
calm_rules locals (f ∷ fs) j g at calm =
    let parts : IsCalm locals (flat_map rule_lets f.rules ++ flat_map rule_lets (flat_map local_rules fs)) =
    subst (λ (ls : List (ℕ × LocalTerm)). IsCalm locals ls) (flat_map-append rule_lets f.rules (flat_map local_rules fs)) calm in
    go j at (calm_left locals (flat_map rule_lets f.rules) (flat_map rule_lets (flat_map local_rules fs)) parts)
    (calm_right locals (flat_map rule_lets f.rules) (flat_map rule_lets (flat_map local_rules fs)) parts)
    (λ i e rest. calm_rules locals fs i g e rest)
  where
    go : (j : ℕ) → slice_get (f ∷ fs) j ≡ Some g → IsCalm locals (flat_map rule_lets f.rules)
        → IsCalm locals (flat_map rule_lets (flat_map local_rules fs))
        → ((i : ℕ) → slice_get fs i ≡ Some g → IsCalm locals (flat_map rule_lets (flat_map local_rules fs)) → IsCalm locals (flat_map rule_lets g.rules))
        → IsCalm locals (flat_map rule_lets g.rules)
    go zero at here rest more = let same : f ≡ g = cc in subst (λ (h : LocalFunction). IsCalm locals (flat_map rule_lets h.rules)) same here
    go (suc i) at here rest more = more i at rest

pub inner_right : (heads : calculus.Program) (f : TopFunction) → IsScoped f → IsTrue (list_all (rule_passes (global_heads heads)) (all_rules f))
    → (j : ℕ) (g : LocalFunction) → slice_get f.locals j ≡ Some g → (k : ℕ) (rule : LocalRule) → slice_get g.rules k ≡ Some rule
    → IsRight f.locals heads rule
inner_right heads f scoped outer j g inside k rule at =
    let mine = rules_of f.body in let others = flat_map local_rules f.locals in
    let calm : IsCalm f.locals (flat_map rule_lets mine ++ flat_map rule_lets others) =
    subst (λ (ls : List (ℕ × LocalTerm)). IsCalm f.locals ls) (flat_map-append rule_lets mine others)
    (record { calm = λ j x a e free. scoped.lets j x a e (is_free f.locals x a free) }) in
    let one = rule_passes (local_heads f.locals) in let two = rule_passes (global_heads heads) in
    record {
      inner = passed_at one g.rules k rule
          (one_part (λ (rs : List LocalRule). IsTrue (list_all one rs)) (all_left one) (all_right one) local_rules f.locals j g inside
          (all_right one mine others scoped.calls)) at;
      outer = passed_at two g.rules k rule
          (one_part (λ (rs : List LocalRule). IsTrue (list_all two rs)) (all_left two) (all_right two) local_rules f.locals j g inside
          (all_right two mine others outer)) at;
      once = one_part (λ (xs : List ℕ). IsTrue (is_linear xs)) linear_left linear_right rule_binders g.rules k rule at
          (one_part (λ (xs : List ℕ). IsTrue (is_linear xs)) linear_left linear_right local_binders f.locals j g inside
          (linear_right (rules_binders mine) (flat_map local_binders f.locals) scoped.once));
      calm = one_part (λ (ls : List (ℕ × LocalTerm)). IsCalm f.locals ls) (calm_left f.locals) (calm_right f.locals) rule_lets g.rules k rule at
          (calm_rules f.locals f.locals j g inside (calm_right f.locals (flat_map rule_lets mine) (flat_map rule_lets others) calm));
    }

-- ---- captured variables

rising_apart : (x : ℕ) (xs : List ℕ) → IsTrue (list_all (nat_lt x) xs) → IsTrue (holds x xs) → ⊥
rising_apart x [] h held = let no : ⊥ = cc in absurd no
rising_apart x (y ∷ xs) h held =
    let parts = and_parts (nat_lt x y) (list_all (nat_lt x) xs) h in
    let below = ltb-true x y parts.0 in
    either (or_cases (nat_eq x y) (holds x xs) held)
    (λ e. let same : x ≡ y = eqb-true x y e in absurd (omega arith)) (λ e. rising_apart x xs parts.1 e)

pub rising_linear : (xs : List ℕ) → IsTrue (are_rising xs) → IsTrue (is_linear xs)
rising_linear [] h = refl
rising_linear (x ∷ xs) h =
    let parts = and_parts (list_all (nat_lt x) xs) (are_rising xs) h in
    and_from (not (holds x xs)) (is_linear xs)
    (not_from_never (holds x xs) (rising_apart x xs parts.0)) (rising_linear xs parts.1)

-- a captured variable is none of the function's own
captured_apart : (f : TopFunction) → IsScoped f → (j : ℕ) (g : LocalFunction) → slice_get f.locals j ≡ Some g
    → (k : ℕ) (rule : LocalRule) → slice_get g.rules k ≡ Some rule → (v : ℕ) → Captures f.locals j v
    → IsTrue (holds v (all_variables rule.params)) → ⊥
captured_apart f scoped j g inside k rule at v captured held =
    let mine = rules_binders (rules_of f.body) in
    let outer : IsTrue (holds v (mine ++ (flat_map local_binders (take j f.locals) ++ flat_map local_binders (drop (suc j) f.locals)))) =
    subst (λ (n : ℕ). IsTrue (holds v (mine ++ (flat_map local_binders (take j f.locals) ++ flat_map local_binders (drop n f.locals))))) (add-one j)
    (scoped.captured j v captured) in
    let own : IsTrue (holds v (local_binders g)) =
    held_part v rule_binders g.rules k rule at (held_left v (all_variables rule.params) (binders rule.body) held) in
    either (held_either v mine (flat_map local_binders (take j f.locals) ++ flat_map local_binders (drop (suc j) f.locals)) outer)
    (λ e. linear_apart v mine (flat_map local_binders f.locals) scoped.once e (held_part v local_binders f.locals j g inside own))
    (λ e. part_apart v local_binders f.locals j g inside (linear_right mine (flat_map local_binders f.locals) scoped.once) e own)

-- what a rule of a local function uses it binds, or the function captures it
used_captured : (locals : List LocalFunction) (j : ℕ) (g : LocalFunction) → slice_get locals j ≡ Some g → (k : ℕ) (rule : LocalRule)
    → slice_get g.rules k ≡ Some rule → (v : ℕ) → holds v (all_variables rule.params) ≡ false → FreeBy locals v (λ c. uses c v rule.body)
    → Captures locals j v
used_captured locals j g inside k rule at v unbound (own h) =
    captures.own j v g inside (any_at (rule_uses no_head v) g.rules k rule at
    (and_from (not (holds v (all_variables rule.params))) (uses no_head v rule.body)
    (not_from_false (holds v (all_variables rule.params)) unbound) h))
used_captured locals j g inside k rule at v unbound (through i h captured) =
    captures.through j i v g inside (any_at (rule_uses (is_local i) v) g.rules k rule at
    (and_from (not (holds v (all_variables rule.params))) (uses (is_local i) v rule.body)
    (not_from_false (holds v (all_variables rule.params)) unbound) h)) captured

-- ---- bodies

pub inner_fits : (heads program : calculus.Program) (f : TopFunction) (l : Lifting) → IsScoped f → HeadsFit f.locals l heads program
    → IsTrue (list_all (rule_passes (global_heads heads)) (all_rules f)) → (j : ℕ) (g : LocalFunction) → slice_get f.locals j ≡ Some g
    → AreCaptured f.locals j (l.captured j)
    → IsTrue (fits_body program (length (l.captured j) + g.arity) (calculus.Rules (map (lifted_rule l (l.captured j)) g.rules)))
inner_fits heads program f l scoped fit outer j g inside captured =
    let xs = l.captured j in
    let arity = and_parts (is_arity g.arity) (list_all (has_arity g.arity) g.rules) (passed_at fits_local f.locals j g scoped.locals inside) in
    all_mapped (fits_rule program (length xs + g.arity)) (lifted_rule l xs) g.rules (λ k rule at.
    rule_fits f.locals l heads program fit xs g.arity rule (inner_right heads f scoped outer j g inside k rule at)
    (passed_at (has_arity g.arity) g.rules k rule arity.1 at) (rising_linear xs captured.rising)
    (λ v held mine. captured_apart f scoped j g inside k rule at v ((captured.exact v).0 held) mine)
    (λ v free. either (cases_Bool (holds v (all_variables rule.params)))
    (λ e. held_right v xs (all_variables rule.params) e)
    (λ e. held_left v xs (all_variables rule.params) ((captured.exact v).1 (used_captured f.locals j g inside k rule at v e free)))))

pub top_fits : (heads program : calculus.Program) (f : TopFunction) (l : Lifting) → IsScoped f → HeadsFit f.locals l heads program
    → IsTrue (list_all (rule_passes (global_heads heads)) (all_rules f)) → IsTrue (fits_body program f.arity (lifted_body l f.body))
top_fits heads program f l scoped fit outer = go f.body refl
  where
    arity : (body : LocalBody) → f.body ≡ body → IsTrue (fits_arity f.arity body)
    arity body is =
        subst (λ (b : LocalBody). IsTrue (fits_arity f.arity b)) is
        (and_parts (is_arity f.arity) (fits_arity f.arity f.body) scoped.arity).1

    go : (body : LocalBody) → f.body ≡ body → IsTrue (fits_body program f.arity (lifted_body l body))
    go (kernel.Rules rules) is =
        all_mapped (fits_rule program f.arity) (lifted_rule l []) rules (λ k rule at.
        let there : slice_get (rules_of f.body) k ≡ Some rule = ap (λ (b : LocalBody). slice_get (rules_of b) k) is ∙ at in
        let same : 0 + f.arity ≡ f.arity = omega arith in
        subst (λ (n : ℕ). IsTrue (fits_rule program n (lifted_rule l [] rule))) same
        (rule_fits f.locals l heads program fit [] f.arity rule (own_right heads f scoped outer k rule there)
        (passed_at (has_arity f.arity) rules k rule (arity (kernel.Rules rules) is) at) refl
        (λ v held mine. let no : ⊥ = cc in absurd no)
        (λ v free. scoped.closed k v rule there (is_free f.locals v rule.body free))))
    go (kernel.External operation) is = arity (kernel.External operation) is
