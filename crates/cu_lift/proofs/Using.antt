-- What is used and bound in rules, and what their parts say of it.
use Rattle.std.proofs.Common.{◌≡◌, ◌||◌, ◌&&◌, not, ℕ, zero, suc, ◌+◌, ◌⊎◌, inl, inr, IsTrue, Bool, true, false, nat_eq, List, [], ◌∷◌, ◌++◌, drop, flat_map, slice_get, take, Some, refl, ap, append_assoc, sym, ◌∙◌, subst, arith}
use Rattle.std.specs.List.{list_any}
use Rattle.cu_calculus.specs.declared.Head.{Head}
use Rattle.cu_calculus.specs.Valid.{all_variables, holds, is_linear, variables_of}
use Rattle.cu_kernel.specs.Captures.{alternatives_use, any_use, is_local, no_head, rule_uses, rules_use, uses}
use Rattle.cu_kernel.specs.LocalKernel.{LocalFunction, LocalRule}
use Rattle.cu_kernel.specs.LocalTerm as local
use Rattle.cu_kernel.specs.LocalTerm.{LocalAlternatives, LocalTerm, LocalTerms}
use Rattle.cu_kernel.specs.LocalValid.{alternative_binders, binders, binders_all, local_binders, rule_binders, rules_binders}
use Rattle.cu_kernel.specs.declared.local.LocalHead.TheVariants as head
use Rattle.cu_kernel.specs.declared.local.LocalHead.{LocalHead}
use Rattle.cu_lift.proofs.Elements.{first_or_rest, in_first, in_rest, none_in}
use Rattle.cu_lift.specs.Groups.{IsIn}
use Rattle.cu_lift.specs.Inside.Capturing.{all_parts, alternative_parts, bound, head_parts, parts, rule_parts, rules_parts}
use Rattle.cu_lift.specs.declared.captures.Part.TheVariants.{Binds, Calls, Uses}
use Rattle.cu_lift.specs.declared.captures.Part.{Part}

-- ---- tests of lists

or_assoc : (a b c : Bool) → a || (b || c) ≡ (a || b) || c
or_assoc true b c = refl
or_assoc false b c = refl

or_none : (a : Bool) → a || false ≡ a
or_none true = refl
or_none false = refl

or_false : (a b : Bool) → a || b ≡ false → (a ≡ false) × (b ≡ false)
or_false true b h = let absent : ⊥ = cc in absurd absent
or_false false b h = (refl, h)

pub or_cases : (a b : Bool) → a || b ≡ true → (a ≡ true) ⊎ (b ≡ true)
or_cases true b h = inl refl
or_cases false b h = inr h

or_first : (a b : Bool) → a ≡ true → a || b ≡ true
or_first true b h = refl
or_first false b h = let absent : ⊥ = cc in absurd absent

or_second : (a b : Bool) → b ≡ true → a || b ≡ true
or_second true b h = refl
or_second false b h = h

and_first : (a b : Bool) → a && b ≡ true → a ≡ true
and_first true b h = refl
and_first false b h = let absent : ⊥ = cc in absurd absent

and_second : (a b : Bool) → a && b ≡ true → b ≡ true
and_second true b h = h
and_second false b h = let absent : ⊥ = cc in absurd absent

pub any_append : {A : Type 0} (p : A → Bool) (xs ys : List A) → list_any p (xs ++ ys) ≡ list_any p xs || list_any p ys
any_append p [] ys = refl
any_append p (x ∷ xs) ys = ap (λ b. p x || b) (any_append p xs ys) ∙ or_assoc (p x) (list_any p xs) (list_any p ys)

parts_false : {A : Type 0} (p : A → Bool) (xs ys : List A) → list_any p (xs ++ ys) ≡ false → (list_any p xs ≡ false) × (list_any p ys ≡ false)
parts_false p xs ys h = or_false (list_any p xs) (list_any p ys) (sym (any_append p xs ys) ∙ h)

same_not : (x y : ℕ) → nat_eq x y ≡ false → nat_eq y x ≡ false
same_not x y h = search (arith, h)

same_self : (x : ℕ) → nat_eq x x ≡ true
same_self x = search arith

same_is : (x y : ℕ) → nat_eq x y ≡ true → x ≡ y
same_is x y h = search (arith, h)

-- ---- uses

abbrev binds_it : ℕ → Part → Bool
binds_it v (Uses x) = false
binds_it v (Calls k) = false
binds_it v (Binds x) = nat_eq v x

abbrev counts_it : (LocalHead → Bool) → ℕ → Part → Bool
counts_it counts v (Uses x) = nat_eq x v
counts_it counts v (Calls k) = counts (head.Local k)
counts_it counts v (Binds x) = false

bound_binds : (v : ℕ) (xs : List ℕ) → list_any (binds_it v) (bound xs) ≡ holds v xs
bound_binds v [] = refl
bound_binds v (x ∷ xs) = ap (λ b. nat_eq v x || b) (bound_binds v xs)

bound_counts : (counts : LocalHead → Bool) (v : ℕ) (xs : List ℕ) → list_any (counts_it counts v) (bound xs) ≡ false
bound_counts counts v [] = refl
bound_counts counts v (x ∷ xs) = bound_counts counts v xs

head_counts : (counts : LocalHead → Bool) → ((h : Head) → counts (head.Global h) ≡ false) → (v : ℕ) (h : LocalHead)
    → counts h ≡ list_any (counts_it counts v) (head_parts h)
head_counts counts none v (head.Global h) = none h
head_counts counts none v (head.Local k) = sym (or_none (counts (head.Local k)))

module _ (counts : LocalHead → Bool) (none : (h : Head) → counts (head.Global h) ≡ false) (v : ℕ) where
  abbrev p : Part → Bool
  p = counts_it counts v

  abbrev q : Part → Bool
  q = binds_it v

  join : (a b : Bool) (xs ys : List Part) → a ≡ list_any p xs → b ≡ list_any p ys → a || b ≡ list_any p (xs ++ ys)
  join a b xs ys e d = ap (λ x. x || b) e ∙ ap (λ y. list_any p xs || y) d ∙ sym (any_append p xs ys)

  unbound : (x : ℕ) (b : Bool) → nat_eq v x ≡ false → not (nat_eq x v) && b ≡ b
  unbound x b h = ap (λ c. not c && b) (same_not v x h)

  mutual
    uses_parts : (t : LocalTerm) → list_any q (parts t) ≡ false → uses counts v t ≡ list_any p (parts t)
    uses_parts (local.Variable x) h = sym (or_none (nat_eq x v))
    uses_parts (local.Literal l) h = refl
    uses_parts (local.Whole k ts) h =
        let e = parts_false q (head_parts k) (all_parts ts) h in
        join (counts k) (any_use counts v ts) (head_parts k) (all_parts ts) (head_counts counts none v k) (any_uses_parts ts e.1)
    uses_parts (local.Part k ts) h =
        let e = parts_false q (head_parts k) (all_parts ts) h in
        join (counts k) (any_use counts v ts) (head_parts k) (all_parts ts) (head_counts counts none v k) (any_uses_parts ts e.1)
    uses_parts (local.Apply f a) h =
        let e = parts_false q (parts f) (parts a) h in
        join (uses counts v f) (uses counts v a) (parts f) (parts a) (uses_parts f e.0) (uses_parts a e.1)
    uses_parts (local.Let x a b) h =
        let d = or_false (nat_eq v x) (list_any q (parts a ++ parts b)) h in
        let e = parts_false q (parts a) (parts b) d.1 in
        join (uses counts v a) (not (nat_eq x v) && uses counts v b) (parts a) (parts b) (uses_parts a e.0)
        (unbound x (uses counts v b) d.0 ∙ uses_parts b e.1)
    uses_parts (local.Free x t) h =
        let d = or_false (nat_eq v x) (list_any q (parts t)) h in unbound x (uses counts v t) d.0 ∙ uses_parts t d.1
    uses_parts (local.Or a b) h =
        let e = parts_false q (parts a) (parts b) h in
        join (uses counts v a) (uses counts v b) (parts a) (parts b) (uses_parts a e.0) (uses_parts b e.1)
    uses_parts (local.Case mode a alternatives) h =
        let e = parts_false q (parts a) (alternative_parts alternatives) h in
        join (uses counts v a) (alternatives_use counts v alternatives) (parts a) (alternative_parts alternatives) (uses_parts a e.0)
        (alternatives_parts alternatives e.1)

    any_uses_parts : (ts : LocalTerms) → list_any q (all_parts ts) ≡ false → any_use counts v ts ≡ list_any p (all_parts ts)
    any_uses_parts local.NoTerm h = refl
    any_uses_parts (local.MoreTerms t ts) h =
        let e = parts_false q (parts t) (all_parts ts) h in
        join (uses counts v t) (any_use counts v ts) (parts t) (all_parts ts) (uses_parts t e.0) (any_uses_parts ts e.1)

    alternatives_parts : (rows : LocalAlternatives) → list_any q (alternative_parts rows) ≡ false → alternatives_use counts v rows ≡ list_any p (alternative_parts rows)
    alternatives_parts local.NoAlternative h = refl
    alternatives_parts (local.MoreAlternatives pattern t rows) h =
        let d = parts_false q (bound (variables_of pattern)) (parts t ++ alternative_parts rows) h in
        let e = parts_false q (parts t) (alternative_parts rows) d.1 in
        join (not (holds v (variables_of pattern)) && uses counts v t) (alternatives_use counts v rows) (parts t) (alternative_parts rows)
        (ap (λ b. not b && uses counts v t) (sym (bound_binds v (variables_of pattern)) ∙ d.0) ∙ uses_parts t e.0) (alternatives_parts rows e.1)
        ∙ ap (λ b. b || list_any p (parts t ++ alternative_parts rows)) (sym (bound_counts counts v (variables_of pattern)))
        ∙ sym (any_append p (bound (variables_of pattern)) (parts t ++ alternative_parts rows))

  rule_uses_parts : (rule : LocalRule) → list_any q (rule_parts rule) ≡ false → rule_uses counts v rule ≡ list_any p (rule_parts rule)
  rule_uses_parts rule h =
      let d = parts_false q (bound (all_variables rule.params)) (parts rule.body) h in
      ap (λ b. not b && uses counts v rule.body) (sym (bound_binds v (all_variables rule.params)) ∙ d.0) ∙ uses_parts rule.body d.1
      ∙ ap (λ b. b || list_any p (parts rule.body)) (sym (bound_counts counts v (all_variables rule.params)))
      ∙ sym (any_append p (bound (all_variables rule.params)) (parts rule.body))

  rules_use_parts : (rules : List LocalRule) → list_any q (rules_parts rules) ≡ false → rules_use counts v rules ≡ list_any p (rules_parts rules)
  rules_use_parts [] h = refl
  rules_use_parts (rule ∷ rules) h =
      let e = parts_false q (rule_parts rule) (rules_parts rules) h in
      join (rule_uses counts v rule) (rules_use counts v rules) (rule_parts rule) (rules_parts rules) (rule_uses_parts rule e.0) (rules_use_parts rules e.1)

-- ---- binders

module _ (v : ℕ) where
  abbrev r : Part → Bool
  r = binds_it v

  both : (a b : Bool) (xs ys : List Part) → list_any r xs ≡ a → list_any r ys ≡ b → list_any r (xs ++ ys) ≡ a || b
  both a b xs ys e d = any_append r xs ys ∙ ap (λ x. x || list_any r ys) e ∙ ap (λ y. a || y) d

  held : (xs ys : List ℕ) (ps qs : List Part) → list_any r ps ≡ holds v xs → list_any r qs ≡ holds v ys → list_any r (ps ++ qs) ≡ holds v (xs ++ ys)
  held xs ys ps qs e d = both (holds v xs) (holds v ys) ps qs e d ∙ sym (any_append (nat_eq v) xs ys)

  head_binds : (h : LocalHead) (ps : List Part) (b : Bool) → list_any r ps ≡ b → list_any r (head_parts h ++ ps) ≡ b
  head_binds (head.Global h) ps b e = e
  head_binds (head.Local k) ps b e = e

  mutual
    term_binds : (t : LocalTerm) → list_any r (parts t) ≡ holds v (binders t)
    term_binds (local.Variable x) = refl
    term_binds (local.Literal l) = refl
    term_binds (local.Whole h ts) = head_binds h (all_parts ts) (holds v (binders_all ts)) (all_bind ts)
    term_binds (local.Part h ts) = head_binds h (all_parts ts) (holds v (binders_all ts)) (all_bind ts)
    term_binds (local.Apply f a) = held (binders f) (binders a) (parts f) (parts a) (term_binds f) (term_binds a)
    term_binds (local.Let x a b) = ap (λ c. nat_eq v x || c) (held (binders a) (binders b) (parts a) (parts b) (term_binds a) (term_binds b))
    term_binds (local.Free x t) = ap (λ c. nat_eq v x || c) (term_binds t)
    term_binds (local.Or a b) = held (binders a) (binders b) (parts a) (parts b) (term_binds a) (term_binds b)
    term_binds (local.Case mode a rows) =
        held (binders a) (alternative_binders rows) (parts a) (alternative_parts rows) (term_binds a) (alternatives_bind rows)

    all_bind : (ts : LocalTerms) → list_any r (all_parts ts) ≡ holds v (binders_all ts)
    all_bind local.NoTerm = refl
    all_bind (local.MoreTerms t ts) = held (binders t) (binders_all ts) (parts t) (all_parts ts) (term_binds t) (all_bind ts)

    alternatives_bind : (rows : LocalAlternatives) → list_any r (alternative_parts rows) ≡ holds v (alternative_binders rows)
    alternatives_bind local.NoAlternative = refl
    alternatives_bind (local.MoreAlternatives p t rows) =
        held (variables_of p) (binders t ++ alternative_binders rows) (bound (variables_of p)) (parts t ++ alternative_parts rows)
        (bound_binds v (variables_of p)) (held (binders t) (alternative_binders rows) (parts t) (alternative_parts rows) (term_binds t) (alternatives_bind rows))

  rules_bind : (rules : List LocalRule) → list_any r (rules_parts rules) ≡ holds v (rules_binders rules)
  rules_bind [] = refl
  rules_bind (rule ∷ rules) =
      held (rule_binders rule) (rules_binders rules) (rule_parts rule) (rules_parts rules)
      (held (all_variables rule.params) (binders rule.body) (bound (all_variables rule.params)) (parts rule.body)
      (bound_binds v (all_variables rule.params)) (term_binds rule.body)) (rules_bind rules)

-- ---- parts, one at a time

any_at : {A : Type 0} (p : A → Bool) (xs : List A) (x : A) → p x ≡ true → IsIn xs x → list_any p xs ≡ true
any_at p [] x h at = absurd (none_in x at)
any_at p (y ∷ xs) x h at = elim (first_or_rest x y xs at) [
  | inl same ↦ or_first (p y) (list_any p xs) (ap p same ∙ h)
  | inr rest ↦ or_second (p y) (list_any p xs) (any_at p xs x h rest)
]

some_at : {A : Type 0} (p : A → Bool) (xs : List A) → list_any p xs ≡ true → (x : A) × IsIn xs x × (p x ≡ true)
some_at p [] h = let absent : ⊥ = cc in absurd absent
some_at p (y ∷ xs) h = elim (or_cases (p y) (list_any p xs) h) [
  | inl here ↦ (y, in_first y xs, here)
  | inr rest ↦ let x = some_at p xs rest in (x.0, in_rest x.0 y xs x.1, x.2)
]

pub in_holds : (v : ℕ) (xs : List ℕ) → IsTrue (holds v xs) → IsIn xs v
in_holds v xs h = let x = some_at (nat_eq v) xs h in subst (λ (n : ℕ). IsIn xs n) (sym (same_is v x.0 x.2)) x.1

pub holds_in : (v : ℕ) (xs : List ℕ) → IsIn xs v → IsTrue (holds v xs)
holds_in v xs h = any_at (nat_eq v) xs v (same_self v) h

free_by : (b : Bool) (v : ℕ) (ps : List Part) → list_any (binds_it v) ps ≡ b → (IsIn ps (Binds v) → ⊥) → b ≡ false
free_by false v ps e h = refl
free_by true v ps e h =
    let x = some_at (binds_it v) ps e in absurd (by x.0 x.1 x.2)
  where
    by : (p : Part) → IsIn ps p → binds_it v p ≡ true → ⊥
    by (Uses x) at is = cc
    by (Calls k) at is = cc
    by (Binds x) at is = h (subst (λ (n : ℕ). IsIn ps (Binds n)) (sym (same_is v x is)) at)

pub is_free : (v : ℕ) (ps : List Part) → (IsIn ps (Binds v) → ⊥) → list_any (binds_it v) ps ≡ false
is_free v ps h = free_by (list_any (binds_it v) ps) v ps refl h

no_global : (h : Head) → no_head (head.Global h) ≡ false
no_global h = refl

no_other : (k : ℕ) (h : Head) → is_local k (head.Global h) ≡ false
no_other k h = refl

-- a variable that rules use and don't bind
pub own_use : (v : ℕ) (rules : List LocalRule) → IsIn (rules_parts rules) (Uses v) → (IsIn (rules_parts rules) (Binds v) → ⊥) → IsTrue (rules_use no_head v rules)
own_use v rules at free =
    rules_use_parts no_head no_global v rules (is_free v (rules_parts rules) free)
    ∙ any_at (counts_it no_head v) (rules_parts rules) (Uses v) (same_self v) at

pub use_own : (v : ℕ) (rules : List LocalRule) → (IsIn (rules_parts rules) (Binds v) → ⊥) → IsTrue (rules_use no_head v rules) → IsIn (rules_parts rules) (Uses v)
use_own v rules free h =
    let x = some_at (counts_it no_head v) (rules_parts rules) (sym (rules_use_parts no_head no_global v rules (is_free v (rules_parts rules) free)) ∙ h) in
    by x.0 x.1 x.2
  where
    by : (p : Part) → IsIn (rules_parts rules) p → counts_it no_head v p ≡ true → IsIn (rules_parts rules) (Uses v)
    by (Uses x) at is = subst (λ (n : ℕ). IsIn (rules_parts rules) (Uses n)) (same_is x v is) at
    by (Calls k) at is = let absent : ⊥ = cc in absurd absent
    by (Binds x) at is = let absent : ⊥ = cc in absurd absent

-- a local function that rules use
pub call_use : (k v : ℕ) (rules : List LocalRule) → IsIn (rules_parts rules) (Calls k) → (IsIn (rules_parts rules) (Binds v) → ⊥)
    → IsTrue (rules_use (is_local k) v rules)
call_use k v rules at free =
    rules_use_parts (is_local k) (no_other k) v rules (is_free v (rules_parts rules) free)
    ∙ any_at (counts_it (is_local k) v) (rules_parts rules) (Calls k) (same_self k) at

pub use_call : (k v : ℕ) (rules : List LocalRule) → (IsIn (rules_parts rules) (Binds v) → ⊥) → IsTrue (rules_use (is_local k) v rules)
    → IsIn (rules_parts rules) (Uses v) ⊎ IsIn (rules_parts rules) (Calls k)
use_call k v rules free h =
    let x = some_at (counts_it (is_local k) v) (rules_parts rules)
    (sym (rules_use_parts (is_local k) (no_other k) v rules (is_free v (rules_parts rules) free)) ∙ h) in
    by x.0 x.1 x.2
  where
    by : (p : Part) → IsIn (rules_parts rules) p → counts_it (is_local k) v p ≡ true → IsIn (rules_parts rules) (Uses v) ⊎ IsIn (rules_parts rules) (Calls k)
    by (Uses x) at is = inl (subst (λ (n : ℕ). IsIn (rules_parts rules) (Uses n)) (same_is x v is) at)
    by (Calls j) at is = inr (subst (λ (n : ℕ). IsIn (rules_parts rules) (Calls n)) (same_is j k is) at)
    by (Binds x) at is = let absent : ⊥ = cc in absurd absent

pub binds_hold : (v : ℕ) (rules : List LocalRule) → IsIn (rules_parts rules) (Binds v) → IsTrue (holds v (rules_binders rules))
binds_hold v rules at = sym (rules_bind v rules) ∙ any_at (binds_it v) (rules_parts rules) (Binds v) (same_self v) at

-- ---- variables that are bound once

pub linear_rest : (xs ys : List ℕ) → IsTrue (is_linear (xs ++ ys)) → IsTrue (is_linear ys)
linear_rest [] ys h = h
linear_rest (x ∷ xs) ys h = linear_rest xs ys (and_second (not (holds x (xs ++ ys))) (is_linear (xs ++ ys)) h)

not_true : (b : Bool) → not b ≡ true → b ≡ true → ⊥
not_true true h e = cc
not_true false h e = cc

pub linear_apart : (v : ℕ) (xs ys : List ℕ) → IsTrue (is_linear (xs ++ ys)) → IsTrue (holds v xs) → IsTrue (holds v ys) → ⊥
linear_apart v [] ys h p q = cc
linear_apart v (x ∷ xs) ys h p q = elim (or_cases (nat_eq v x) (holds v xs) p) [
  | inl here ↦
      not_true (holds x (xs ++ ys)) (and_first (not (holds x (xs ++ ys))) (is_linear (xs ++ ys)) h)
      (subst (λ (n : ℕ). holds n (xs ++ ys) ≡ true) (same_is v x here) (any_append (nat_eq v) xs ys ∙ or_second (holds v xs) (holds v ys) q))
  | inr rest ↦ linear_apart v xs ys (and_second (not (holds x (xs ++ ys))) (is_linear (xs ++ ys)) h) rest q
]

pub held_at : (v k : ℕ) (f : LocalFunction) (locals : List LocalFunction) → slice_get locals k ≡ Some f → IsTrue (holds v (local_binders f))
    → IsTrue (holds v (flat_map local_binders locals))
held_at v k f [] e q = let absent : ⊥ = cc in absurd absent
held_at v zero f (g ∷ locals) e q =
    let same : g ≡ f = cc in
    any_append (nat_eq v) (local_binders g) (flat_map local_binders locals)
    ∙ or_first (holds v (local_binders g)) (holds v (flat_map local_binders locals))
    (subst (λ (x : LocalFunction). IsTrue (holds v (local_binders x))) (sym same) q)
held_at v (suc k) f (g ∷ locals) e q =
    any_append (nat_eq v) (local_binders g) (flat_map local_binders locals)
    ∙ or_second (holds v (local_binders g)) (holds v (flat_map local_binders locals)) (held_at v k f locals e q)

-- the binders of one local function, and of the others
pub apart_at : (v k : ℕ) (f : LocalFunction) (locals : List LocalFunction) → slice_get locals k ≡ Some f → IsTrue (is_linear (flat_map local_binders locals))
    → IsTrue (holds v (flat_map local_binders (take k locals) ++ flat_map local_binders (drop (k + 1) locals))) → IsTrue (holds v (local_binders f)) → ⊥
apart_at v k f [] e h p q = let absent : ⊥ = cc in absurd absent
apart_at v zero f (g ∷ locals) e h p q =
    let same : g ≡ f = cc in
    linear_apart v (local_binders g) (flat_map local_binders locals) h (subst (λ (x : LocalFunction). IsTrue (holds v (local_binders x))) (sym same) q) p
apart_at v (suc k) f (g ∷ locals) e h p q =
    let one : suc k + 1 ≡ suc (k + 1) = omega arith in
    let rest = subst (λ (n : ℕ). IsTrue (holds v ((local_binders g ++ flat_map local_binders (take k locals)) ++ flat_map local_binders (drop n (g ∷ locals))))) one p in
    let others = flat_map local_binders (take k locals) ++ flat_map local_binders (drop (k + 1) locals) in
    let split = any_append (nat_eq v) (local_binders g) others in
    elim (or_cases (holds v (local_binders g)) (holds v others)
    (sym split ∙ ap (holds v) (sym (append_assoc (local_binders g) (flat_map local_binders (take k locals)) (flat_map local_binders (drop (k + 1) locals)))) ∙ rest)) [
      | inl here ↦ linear_apart v (local_binders g) (flat_map local_binders locals) h here (held_at v k f locals e q)
      | inr more ↦ apart_at v k f locals e (linear_rest (local_binders g) (flat_map local_binders locals) h) more q
    ]
