-- Lifted terms fit a program: heads have the arguments that they take, and each variable is bound.
use Rattle.std.proofs.Common.{◌≡◌, ℕ, zero, suc, ◌+◌, Bool, true, false, not, ◌&&◌, ◌||◌, List, [], ◌∷◌, ◌++◌, length, Option, None, Some, IsTrue, nat_eq, slice_get, option_map, refl, ap, sym, ◌∙◌, subst, arith, inl, inr, ⊎_elim, ◌⊎◌}
use Rattle.std.proofs.lemmas.Bool.{and_from, and_parts, eqb-true, eq-eqb, not_from_false, or_cases, or_left, or_right}
use Rattle.cu_calculus.proofs.Lists.{get_suffix, get_prefix}
use Rattle.cu_calculus.specs.Program as calculus
use Rattle.cu_calculus.specs.Program.{arity_in}
use Rattle.cu_calculus.specs.Shape.{is_allowed, takes, takes_more}
use Rattle.cu_calculus.specs.Term as clean
use Rattle.cu_calculus.specs.Valid as valid
use Rattle.cu_calculus.specs.Valid.{also, also_all, but, fit_alternatives, fit_patterns, fit_terms, fits_pattern, fits_term, holds, is_linear, pattern_count, variables_of}
use Rattle.cu_calculus.specs.declared.ConId.{ConId}
use Rattle.cu_kernel.specs.Captures as free
use Rattle.cu_kernel.specs.Captures.{Captures, IsFree, alternatives_use, any_use, is_local, no_head, uses}
use Rattle.cu_kernel.specs.LocalKernel.{LocalFunction}
use Rattle.cu_kernel.specs.LocalTerm as local
use Rattle.cu_kernel.specs.LocalTerm.{LocalAlternatives, LocalTerm, LocalTerms}
use Rattle.cu_kernel.specs.LocalValid.{Heads, alternative_binders, alternatives_pass, binders, binders_all, builds, global_heads, lets, lets_of_all, lets_of_alternatives, local_arity, local_heads, pattern_passes, patterns_pass, takes_globally, takes_locally, takes_more_globally, takes_more_locally, term_count, term_passes, terms_pass}
use Rattle.cu_kernel.specs.declared.local.LocalHead.TheVariants as local_head
use Rattle.cu_kernel.specs.declared.local.LocalHead.{LocalHead}
use Rattle.cu_lift.specs.Lifting.{Lifting, after_variables, lifted_alternatives, lifted_head, lifted_term, lifted_terms, passed}

-- ---- free variables of parts

-- a variable is free in what uses it, or what uses a local function that captures it
pub data FreeBy (locals : List LocalFunction) (v : ℕ) (u : (LocalHead → Bool) → Bool) : Type 0 where
  own : IsTrue (u no_head) → FreeBy locals v u
  through : (h : ℕ) → IsTrue (u (is_local h)) → Captures locals h v → FreeBy locals v u

pub free_in_more : (locals : List LocalFunction) (v : ℕ) (u w : (LocalHead → Bool) → Bool) → ((c : LocalHead → Bool) → IsTrue (u c) → IsTrue (w c))
    → FreeBy locals v u → FreeBy locals v w
free_in_more locals v u w more (own h) = own (more no_head h)
free_in_more locals v u w more (through k h captures) = through k (more (is_local k) h) captures

pub is_free : (locals : List LocalFunction) (v : ℕ) (t : LocalTerm) → FreeBy locals v (λ c. uses c v t) → IsFree locals v t
is_free locals v t (own h) = free.own h
is_free locals v t (through k h captures) = free.through k h captures

-- no variable is free in its own definition
pub record IsCalm (locals : List LocalFunction) (ls : List (ℕ × LocalTerm)) : Type 0 where
  pub calm : (k x : ℕ) (a : LocalTerm) → slice_get ls k ≡ Some (x, a) → FreeBy locals x (λ c. uses c x a) → ⊥

pub calm_left : (locals : List LocalFunction) (xs ys : List (ℕ × LocalTerm)) → IsCalm locals (xs ++ ys) → IsCalm locals xs
calm_left locals xs ys h = record { calm = λ k x a e. h.calm k x a (get_prefix xs ys k (x, a) e) }

pub calm_right : (locals : List LocalFunction) (xs ys : List (ℕ × LocalTerm)) → IsCalm locals (xs ++ ys) → IsCalm locals ys
calm_right locals xs ys h = record { calm = λ k x a e. h.calm (length xs + k) x a (get_suffix xs ys k ∙ e) }

calm_rest : (locals : List LocalFunction) (l : ℕ × LocalTerm) (ls : List (ℕ × LocalTerm)) → IsCalm locals (l ∷ ls) → IsCalm locals ls
calm_rest locals l ls h = record { calm = λ k x a e. h.calm (suc k) x a e }

-- ---- variables that stand once

pub either : {A B C : Type 0} → A ⊎ B → (A → C) → (B → C) → C
either s f g = ⊎_elim f g s

pub held_left : (v : ℕ) (xs ys : List ℕ) → IsTrue (holds v xs) → IsTrue (holds v (xs ++ ys))
held_left v [] ys h = let no : ⊥ = cc in absurd no
held_left v (x ∷ xs) ys h =
    either (or_cases (nat_eq v x) (holds v xs) h) (λ e. or_left (nat_eq v x) (holds v (xs ++ ys)) e)
    (λ e. or_right (nat_eq v x) (holds v (xs ++ ys)) (held_left v xs ys e))

pub held_right : (v : ℕ) (xs ys : List ℕ) → IsTrue (holds v ys) → IsTrue (holds v (xs ++ ys))
held_right v [] ys h = h
held_right v (x ∷ xs) ys h = or_right (nat_eq v x) (holds v (xs ++ ys)) (held_right v xs ys h)

not_true_both : (b : Bool) → not b ≡ true → b ≡ true → ⊥
not_true_both true h k = let no : ⊥ = cc in absurd no
not_true_both false h k = let no : ⊥ = cc in absurd no

pub not_from_never : (b : Bool) → (b ≡ true → ⊥) → not b ≡ true
not_from_never true never = absurd (never refl)
not_from_never false never = refl

pub linear_left : (xs ys : List ℕ) → IsTrue (is_linear (xs ++ ys)) → IsTrue (is_linear xs)
linear_left [] ys h = refl
linear_left (x ∷ xs) ys h =
    let parts = and_parts (not (holds x (xs ++ ys))) (is_linear (xs ++ ys)) h in
    and_from (not (holds x xs)) (is_linear xs)
    (not_from_never (holds x xs) (λ e. not_true_both (holds x (xs ++ ys)) parts.0 (held_left x xs ys e))) (linear_left xs ys parts.1)

pub linear_right : (xs ys : List ℕ) → IsTrue (is_linear (xs ++ ys)) → IsTrue (is_linear ys)
linear_right [] ys h = h
linear_right (x ∷ xs) ys h = linear_right xs ys (and_parts (not (holds x (xs ++ ys))) (is_linear (xs ++ ys)) h).1

-- what stands on the left doesn't stand on the right
pub linear_apart : (v : ℕ) (xs ys : List ℕ) → IsTrue (is_linear (xs ++ ys)) → IsTrue (holds v xs) → IsTrue (holds v ys) → ⊥
linear_apart v [] ys h left right = let no : ⊥ = cc in absurd no
linear_apart v (x ∷ xs) ys h left right =
    let parts = and_parts (not (holds x (xs ++ ys))) (is_linear (xs ++ ys)) h in
    either (or_cases (nat_eq v x) (holds v xs) left)
    (λ e. not_true_both (holds x (xs ++ ys)) parts.0
    (held_right x xs ys (subst (λ (w : ℕ). IsTrue (holds w ys)) (eqb-true v x e) right)))
    (λ e. linear_apart v xs ys parts.1 e right)

pub held_either : (v : ℕ) (xs ys : List ℕ) → IsTrue (holds v (xs ++ ys)) → IsTrue (holds v xs) ⊎ IsTrue (holds v ys)
held_either v [] ys h = inr h
held_either v (x ∷ xs) ys h =
    either (or_cases (nat_eq v x) (holds v (xs ++ ys)) h) (λ e. inl (or_left (nat_eq v x) (holds v xs) e))
    (λ e. either (held_either v xs ys e) (λ k. inl (or_right (nat_eq v x) (holds v xs) k)) (λ k. inr k))

pub linear_from : (xs ys : List ℕ) → IsTrue (is_linear xs) → IsTrue (is_linear ys) → ((v : ℕ) → IsTrue (holds v xs) → IsTrue (holds v ys) → ⊥)
    → IsTrue (is_linear (xs ++ ys))
linear_from [] ys left right apart = right
linear_from (x ∷ xs) ys left right apart =
    let parts = and_parts (not (holds x xs)) (is_linear xs) left in
    and_from (not (holds x (xs ++ ys))) (is_linear (xs ++ ys))
    (not_from_never (holds x (xs ++ ys)) (λ e. either (held_either x xs ys e) (λ k. not_true_both (holds x xs) parts.0 k)
    (λ k. apart x (or_left (nat_eq x x) (holds x xs) (eq-eqb x x refl)) k)))
    (linear_from xs ys parts.1 right (λ v a b. apart v (or_right (nat_eq v x) (holds v xs) a) b))

-- ---- numbers of arguments

pub count_after : (xs : List ℕ) (ts : clean.Terms) → valid.term_count (after_variables xs ts) ≡ length xs + valid.term_count ts
count_after [] ts = omega arith
count_after (x ∷ xs) ts = let rest = count_after xs ts in omega (arith, rest)

pub count_lifted : (l : Lifting) (ts : LocalTerms) → valid.term_count (lifted_terms l ts) ≡ term_count ts
count_lifted l local.NoTerm = refl
count_lifted l (local.MoreTerms t ts) = ap (λ n. n + 1) (count_lifted l ts)

or_if_not : (b m : Bool) → (b ≡ false → m ≡ true) → (b || m) ≡ true
or_if_not true m h = refl
or_if_not false m h = h refl

pub there : (locals : List LocalFunction) (k n : ℕ) (test : Option ℕ → ℕ → Bool) → test None n ≡ false
    → IsTrue (test (local_arity locals k) n) → (g : LocalFunction) × (slice_get locals k ≡ Some g)
there locals k n test none h = go (slice_get locals k) refl
  where
    go : (o : Option LocalFunction) → slice_get locals k ≡ o → (g : LocalFunction) × (slice_get locals k ≡ Some g)
    go None e =
        let bad : true ≡ false = sym h ∙ ap (λ p. test (option_map (λ (f : LocalFunction). f.arity) p) n) e ∙ none in
        let no : ⊥ = cc in absurd no
    go (Some g) e = (g, e)

-- what lifted heads are in a program
pub record HeadsFit (locals : List LocalFunction) (l : Lifting) (heads program : calculus.Program) : Type 0 where
  pub whole : (h : LocalHead) (n : ℕ) → IsTrue (takes_locally locals h n) → IsTrue (takes_globally heads h n)
      → IsTrue (is_allowed program (lifted_head l h) && takes (arity_in program (lifted_head l h)) (length (passed l h) + n))
  pub part : (h : LocalHead) (n : ℕ) → IsTrue (takes_more_locally locals h n) → IsTrue (takes_more_globally heads h n)
      → IsTrue (is_allowed program (lifted_head l h) && takes_more (arity_in program (lifted_head l h)) (length (passed l h) + n))
  pub built : (c : ConId) (n : ℕ) → IsTrue (builds heads c n) → IsTrue (builds program c n)
  pub captured : (k : ℕ) (g : LocalFunction) (v : ℕ) → slice_get locals k ≡ Some g → IsTrue (holds v (l.captured k)) → Captures locals k v

module _ (locals : List LocalFunction) (l : Lifting) (heads program : calculus.Program) (fit : HeadsFit locals l heads program) where
  abbrev inner : Heads
  inner = local_heads locals

  abbrev outer : Heads
  outer = global_heads heads

  mutual
    pub pattern_fits : (p : clean.Pattern) → IsTrue (pattern_passes outer p) → IsTrue (fits_pattern program p)
    pattern_fits (clean.Any x) h = refl
    pattern_fits (clean.Exactly n) h = h
    pattern_fits (clean.Built c ps) h =
        let parts = and_parts (builds heads c (pattern_count ps)) (patterns_pass outer ps) h in
        and_from (builds program c (pattern_count ps)) (fit_patterns program ps) (fit.built c (pattern_count ps) parts.0) (patterns_fit ps parts.1)
    pattern_fits (clean.Named x p) h = pattern_fits p h

    pub patterns_fit : (ps : clean.Patterns) → IsTrue (patterns_pass outer ps) → IsTrue (fit_patterns program ps)
    patterns_fit clean.NoPattern h = refl
    patterns_fit (clean.MorePatterns p ps) h =
        let parts = and_parts (pattern_passes outer p) (patterns_pass outer ps) h in
        and_from (fits_pattern program p) (fit_patterns program ps) (pattern_fits p parts.0) (patterns_fit ps parts.1)

  variables_fit : (may : ℕ → Bool) (xs : List ℕ) (ts : clean.Terms) → ((v : ℕ) → IsTrue (holds v xs) → IsTrue (may v))
      → IsTrue (fit_terms program may ts) → IsTrue (fit_terms program may (after_variables xs ts))
  variables_fit may [] ts each h = h
  variables_fit may (x ∷ xs) ts each h =
      and_from (may x) (fit_terms program may (after_variables xs ts)) (each x (or_left (nat_eq x x) (holds x xs) (eq-eqb x x refl)))
      (variables_fit may xs ts (λ v k. each v (or_right (nat_eq v x) (holds v xs) k)) h)

  -- the variables that a call passes are free in it
  passed_are_free : (may : ℕ → Bool) (h : LocalHead) (n : ℕ) (ts : LocalTerms) (test : Option ℕ → ℕ → Bool) → test None n ≡ false
      → ((k : ℕ) → h ≡ local_head.Local k → IsTrue (test (local_arity locals k) n))
      → ((v : ℕ) → FreeBy locals v (λ c. c h || any_use c v ts) → IsTrue (may v)) → (v : ℕ) → IsTrue (holds v (passed l h)) → IsTrue (may v)
  passed_are_free may (local_head.Global h) n ts test none known each v held = let no : ⊥ = cc in absurd no
  passed_are_free may (local_head.Local k) n ts test none known each v held =
      let at = there locals k n test none (known k refl) in
      each v (through k (or_left (nat_eq k k) (any_use (is_local k) v ts) (eq-eqb k k refl)) (fit.captured k at.0 v at.1 held))

  abbrev MayStand : (ℕ → Bool) → (ℕ → (LocalHead → Bool) → Bool) → Type 0
  MayStand may u = (v : ℕ) → FreeBy locals v (u v) → IsTrue (may v)

  part_may : (may : ℕ → Bool) (u w : ℕ → (LocalHead → Bool) → Bool) → ((v : ℕ) (c : LocalHead → Bool) → IsTrue (u v c) → IsTrue (w v c))
      → MayStand may w → MayStand may u
  part_may may u w more each v h = each v (free_in_more locals v (u v) (w v) (more v) h)

  -- under a binder of some variables
  under : (may : ℕ → Bool) (bound : ℕ → Bool) (u w : ℕ → (LocalHead → Bool) → Bool)
      → ((v : ℕ) (c : LocalHead → Bool) → bound v ≡ false → IsTrue (u v c) → IsTrue (w v c)) → MayStand may w
      → MayStand (λ v. bound v || may v) u
  under may bound u w more each v h = or_if_not (bound v) (may v) (λ e. each v (free_in_more locals v (u v) (w v) (λ c k. more v c e k) h))

  apart : (x v : ℕ) (a : LocalTerm) → (FreeBy locals x (λ c. uses c x a) → ⊥) → FreeBy locals v (λ c. uses c v a) → IsTrue (not (nat_eq x v))
  apart x v a never h =
      not_from_never (nat_eq x v) (λ e. never (subst (λ (w : ℕ). FreeBy locals w (λ c. uses c w a)) (sym (eqb-true x v e)) h))

  abbrev TermFits : (ℕ → Bool) → LocalTerm → Type 0
  TermFits may t = IsTrue (term_passes inner t) → IsTrue (term_passes outer t) → IsTrue (is_linear (binders t)) → IsCalm locals (lets t)
      → MayStand may (λ v c. uses c v t) → IsTrue (fits_term program may (lifted_term l t))

  two_fit : (may : ℕ → Bool) (a b : LocalTerm) → IsTrue (term_passes inner a && term_passes inner b)
      → IsTrue (term_passes outer a && term_passes outer b) → IsTrue (is_linear (binders a ++ binders b))
      → IsCalm locals (lets a ++ lets b) → MayStand may (λ v c. uses c v a || uses c v b) → TermFits may a → TermFits may b
      → IsTrue (fits_term program may (lifted_term l a) && fits_term program may (lifted_term l b))
  two_fit may a b h k once calm each first second =
      let one = and_parts (term_passes inner a) (term_passes inner b) h in
      let two = and_parts (term_passes outer a) (term_passes outer b) k in
      and_from (fits_term program may (lifted_term l a)) (fits_term program may (lifted_term l b))
      (first one.0 two.0 (linear_left (binders a) (binders b) once) (calm_left locals (lets a) (lets b) calm)
      (part_may may (λ v c. uses c v a) (λ v c. uses c v a || uses c v b) (λ v c e. or_left (uses c v a) (uses c v b) e) each))
      (second one.1 two.1 (linear_right (binders a) (binders b) once) (calm_right locals (lets a) (lets b) calm)
      (part_may may (λ v c. uses c v b) (λ v c. uses c v a || uses c v b) (λ v c e. or_right (uses c v a) (uses c v b) e) each))

  mutual
    pub term_fits : (may : ℕ → Bool) (t : LocalTerm) → IsTrue (term_passes inner t) → IsTrue (term_passes outer t) → IsTrue (is_linear (binders t))
        → IsCalm locals (lets t) → MayStand may (λ v c. uses c v t) → IsTrue (fits_term program may (lifted_term l t))
    term_fits may (local.Variable x) h k once calm each = each x (own (eq-eqb x x refl))
    term_fits may (local.Literal n) h k once calm each = h
    term_fits may (local.Whole f ts) h k once calm each =
        let n = term_count ts in
        let one = and_parts (takes_locally locals f n) (terms_pass inner ts) h in
        let two = and_parts (takes_globally heads f n) (terms_pass outer ts) k in
        let rest = terms_fit may ts one.1 two.1 once calm (part_may may (λ v c. any_use c v ts) (λ v c. c f || any_use c v ts)
        (λ v c e. or_right (c f) (any_use c v ts) e) each) in
        let there : (j : ℕ) → f ≡ local_head.Local j → IsTrue (takes (local_arity locals j) n) =
        λ j e. subst (λ (g : LocalHead). IsTrue (takes_locally locals g n)) e one.0 in
        let count : length (passed l f) + n ≡ valid.term_count (after_variables (passed l f) (lifted_terms l ts)) =
        ap (λ m. length (passed l f) + m) (sym (count_lifted l ts)) ∙ sym (count_after (passed l f) (lifted_terms l ts)) in
        and_from (is_allowed program (lifted_head l f) && takes (arity_in program (lifted_head l f)) (valid.term_count (after_variables (passed l f) (lifted_terms l ts))))
        (fit_terms program may (after_variables (passed l f) (lifted_terms l ts)))
        (subst (λ (m : ℕ). IsTrue (is_allowed program (lifted_head l f) && takes (arity_in program (lifted_head l f)) m)) count (fit.whole f n one.0 two.0))
        (variables_fit may (passed l f) (lifted_terms l ts) (passed_are_free may f n ts takes refl there each) rest)
    term_fits may (local.Part f ts) h k once calm each =
        let n = term_count ts in
        let one = and_parts (takes_more_locally locals f n) (terms_pass inner ts) h in
        let two = and_parts (takes_more_globally heads f n) (terms_pass outer ts) k in
        let rest = terms_fit may ts one.1 two.1 once calm (part_may may (λ v c. any_use c v ts) (λ v c. c f || any_use c v ts)
        (λ v c e. or_right (c f) (any_use c v ts) e) each) in
        let there : (j : ℕ) → f ≡ local_head.Local j → IsTrue (takes_more (local_arity locals j) n) =
        λ j e. subst (λ (g : LocalHead). IsTrue (takes_more_locally locals g n)) e one.0 in
        let count : length (passed l f) + n ≡ valid.term_count (after_variables (passed l f) (lifted_terms l ts)) =
        ap (λ m. length (passed l f) + m) (sym (count_lifted l ts)) ∙ sym (count_after (passed l f) (lifted_terms l ts)) in
        and_from (is_allowed program (lifted_head l f) && takes_more (arity_in program (lifted_head l f)) (valid.term_count (after_variables (passed l f) (lifted_terms l ts))))
        (fit_terms program may (after_variables (passed l f) (lifted_terms l ts)))
        (subst (λ (m : ℕ). IsTrue (is_allowed program (lifted_head l f) && takes_more (arity_in program (lifted_head l f)) m)) count (fit.part f n one.0 two.0))
        (variables_fit may (passed l f) (lifted_terms l ts) (passed_are_free may f n ts takes_more refl there each) rest)
    term_fits may (local.Apply f a) h k once calm each =
        two_fit may f a h k once calm each (term_fits may f) (term_fits may a)
    term_fits may (local.Let x a b) h k once calm each =
        let one = and_parts (term_passes inner a) (term_passes inner b) h in
        let two = and_parts (term_passes outer a) (term_passes outer b) k in
        let linear = (and_parts (not (holds x (binders a ++ binders b))) (is_linear (binders a ++ binders b)) once).1 in
        let rest = calm_rest locals (x, a) (lets a ++ lets b) calm in
        and_from (fits_term program (but x may) (lifted_term l a)) (fits_term program (also x may) (lifted_term l b))
        (term_fits (but x may) a one.0 two.0 (linear_left (binders a) (binders b) linear) (calm_left locals (lets a) (lets b) rest)
        (λ v free. and_from (not (nat_eq x v)) (may v) (apart x v a (calm.calm zero x a refl) free)
        (each v (free_in_more locals v (λ c. uses c v a) (λ c. uses c v a || (not (nat_eq x v) && uses c v b))
        (λ c e. or_left (uses c v a) (not (nat_eq x v) && uses c v b) e) free))))
        (term_fits (also x may) b one.1 two.1 (linear_right (binders a) (binders b) linear) (calm_right locals (lets a) (lets b) rest)
        (under may (nat_eq x) (λ v c. uses c v b) (λ v c. uses c v a || (not (nat_eq x v) && uses c v b))
        (λ v c e g. or_right (uses c v a) (not (nat_eq x v) && uses c v b)
        (and_from (not (nat_eq x v)) (uses c v b) (not_from_false (nat_eq x v) e) g)) each))
    term_fits may (local.Free x t) h k once calm each =
        term_fits (also x may) t h k (and_parts (not (holds x (binders t))) (is_linear (binders t)) once).1 calm
        (under may (nat_eq x) (λ v c. uses c v t) (λ v c. not (nat_eq x v) && uses c v t)
        (λ v c e g. and_from (not (nat_eq x v)) (uses c v t) (not_from_false (nat_eq x v) e) g) each)
    term_fits may (local.Or a b) h k once calm each = two_fit may a b h k once calm each (term_fits may a) (term_fits may b)
    term_fits may (local.Case mode a rows) h k once calm each =
        let one = and_parts (term_passes inner a) (alternatives_pass inner rows) h in
        let two = and_parts (term_passes outer a) (alternatives_pass outer rows) k in
        and_from (fits_term program may (lifted_term l a)) (fit_alternatives program may (lifted_alternatives l rows))
        (term_fits may a one.0 two.0 (linear_left (binders a) (alternative_binders rows) once) (calm_left locals (lets a) (lets_of_alternatives rows) calm)
        (part_may may (λ v c. uses c v a) (λ v c. uses c v a || alternatives_use c v rows)
        (λ v c e. or_left (uses c v a) (alternatives_use c v rows) e) each))
        (alternatives_fit may rows one.1 two.1 (linear_right (binders a) (alternative_binders rows) once)
        (calm_right locals (lets a) (lets_of_alternatives rows) calm)
        (part_may may (λ v c. alternatives_use c v rows) (λ v c. uses c v a || alternatives_use c v rows)
        (λ v c e. or_right (uses c v a) (alternatives_use c v rows) e) each))

    pub terms_fit : (may : ℕ → Bool) (ts : LocalTerms) → IsTrue (terms_pass inner ts) → IsTrue (terms_pass outer ts)
        → IsTrue (is_linear (binders_all ts)) → IsCalm locals (lets_of_all ts) → MayStand may (λ v c. any_use c v ts)
        → IsTrue (fit_terms program may (lifted_terms l ts))
    terms_fit may local.NoTerm h k once calm each = refl
    terms_fit may (local.MoreTerms t ts) h k once calm each =
        let one = and_parts (term_passes inner t) (terms_pass inner ts) h in
        let two = and_parts (term_passes outer t) (terms_pass outer ts) k in
        and_from (fits_term program may (lifted_term l t)) (fit_terms program may (lifted_terms l ts))
        (term_fits may t one.0 two.0 (linear_left (binders t) (binders_all ts) once) (calm_left locals (lets t) (lets_of_all ts) calm)
        (part_may may (λ v c. uses c v t) (λ v c. uses c v t || any_use c v ts) (λ v c e. or_left (uses c v t) (any_use c v ts) e) each))
        (terms_fit may ts one.1 two.1 (linear_right (binders t) (binders_all ts) once) (calm_right locals (lets t) (lets_of_all ts) calm)
        (part_may may (λ v c. any_use c v ts) (λ v c. uses c v t || any_use c v ts) (λ v c e. or_right (uses c v t) (any_use c v ts) e) each))

    pub alternatives_fit : (may : ℕ → Bool) (rows : LocalAlternatives) → IsTrue (alternatives_pass inner rows) → IsTrue (alternatives_pass outer rows)
        → IsTrue (is_linear (alternative_binders rows)) → IsCalm locals (lets_of_alternatives rows) → MayStand may (λ v c. alternatives_use c v rows)
        → IsTrue (fit_alternatives program may (lifted_alternatives l rows))
    alternatives_fit may local.NoAlternative h k once calm each = refl
    alternatives_fit may (local.MoreAlternatives p t rows) h k once calm each =
        let one = and_parts (pattern_passes inner p && term_passes inner t) (alternatives_pass inner rows) h in
        let two = and_parts (pattern_passes outer p && term_passes outer t) (alternatives_pass outer rows) k in
        let first = and_parts (pattern_passes inner p) (term_passes inner t) one.0 in
        let second = and_parts (pattern_passes outer p) (term_passes outer t) two.0 in
        let xs = variables_of p in
        let after = linear_right xs (binders t ++ alternative_binders rows) once in
        let pattern = fits_pattern program p in
        let body = fits_term program (also_all xs may) (lifted_term l t) in
        and_from (pattern && is_linear xs && body) (fit_alternatives program may (lifted_alternatives l rows))
        (and_from (pattern && is_linear xs) body
        (and_from pattern (is_linear xs) (pattern_fits p second.0) (linear_left xs (binders t ++ alternative_binders rows) once))
        (term_fits (also_all xs may) t first.1 second.1 (linear_left (binders t) (alternative_binders rows) after)
        (calm_left locals (lets t) (lets_of_alternatives rows) calm)
        (under may (λ v. holds v xs) (λ v c. uses c v t) (λ v c. (not (holds v xs) && uses c v t) || alternatives_use c v rows)
        (λ v c e g. or_left (not (holds v xs) && uses c v t) (alternatives_use c v rows)
        (and_from (not (holds v xs)) (uses c v t) (not_from_false (holds v xs) e) g)) each)))
        (alternatives_fit may rows one.1 two.1 (linear_right (binders t) (alternative_binders rows) after)
        (calm_right locals (lets t) (lets_of_alternatives rows) calm)
        (part_may may (λ v c. alternatives_use c v rows) (λ v c. (not (holds v xs) && uses c v t) || alternatives_use c v rows)
        (λ v c e. or_right (not (holds v xs) && uses c v t) (alternatives_use c v rows) e) each))
