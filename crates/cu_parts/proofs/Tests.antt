-- Tests of Bools and of lists of numbers.
use Rattle.std.proofs.Common.{◌≡◌, ◌||◌, ◌&&◌, not, ℕ, zero, suc, ◌⊎◌, inl, inr, Bool, true, false, nat_eq, List, [], ◌∷◌, ◌++◌, flat_map, slice_get, Some, refl, ap, sym, ◌∙◌, subst, arith}
use Rattle.std.specs.List.{list_all, list_any}
use Rattle.cu_calculus.specs.Valid.{holds, is_linear}

-- ---- Bools

pub or_assoc : (a b c : Bool) → a || (b || c) ≡ (a || b) || c
or_assoc true b c = refl
or_assoc false b c = refl

pub and_assoc : (a b c : Bool) → a && (b && c) ≡ (a && b) && c
and_assoc true b c = refl
and_assoc false b c = refl

pub or_cases : (a b : Bool) → a || b ≡ true → (a ≡ true) ⊎ (b ≡ true)
or_cases true b h = inl refl
or_cases false b h = inr h

pub or_first : (a b : Bool) → a ≡ true → a || b ≡ true
or_first true b h = refl
or_first false b h = let absent : ⊥ = cc in absurd absent

pub or_second : (a b : Bool) → b ≡ true → a || b ≡ true
or_second true b h = refl
or_second false b h = h

pub and_first : (a b : Bool) → a && b ≡ true → a ≡ true
and_first true b h = refl
and_first false b h = let absent : ⊥ = cc in absurd absent

pub and_second : (a b : Bool) → a && b ≡ true → b ≡ true
and_second true b h = h
and_second false b h = let absent : ⊥ = cc in absurd absent

pub and_both : (a b : Bool) → a ≡ true → b ≡ true → a && b ≡ true
and_both true b p q = q
and_both false b p q = let absent : ⊥ = cc in absurd absent

pub not_false : (b : Bool) → (b ≡ true → ⊥) → b ≡ false
not_false false h = refl
not_false true h = absurd (h refl)

pub not_held : (b : Bool) → (b ≡ true → ⊥) → not b ≡ true
not_held b h = ap not (not_false b h)

pub not_true : (b : Bool) → not b ≡ true → b ≡ true → ⊥
not_true true h e = cc
not_true false h e = cc

pub of_not : (b : Bool) → not b ≡ true → b ≡ false
of_not b h = not_false b (not_true b h)

pub apart : (b : Bool) → b ≡ true → b ≡ false → ⊥
apart b h e = cc

pub either : (b : Bool) → (b ≡ true) ⊎ (b ≡ false)
either true = inl refl
either false = inr refl

pub same_self : (x : ℕ) → nat_eq x x ≡ true
same_self x = search arith

pub same_is : (x y : ℕ) → nat_eq x y ≡ true → x ≡ y
same_is x y h = search (arith, h)

-- ---- lists

pub any_append : {A : Type 0} (p : A → Bool) (xs ys : List A) → list_any p (xs ++ ys) ≡ list_any p xs || list_any p ys
any_append p [] ys = refl
any_append p (x ∷ xs) ys = ap (λ b. p x || b) (any_append p xs ys) ∙ or_assoc (p x) (list_any p xs) (list_any p ys)

pub all_append : {A : Type 0} (p : A → Bool) (xs ys : List A) → list_all p (xs ++ ys) ≡ list_all p xs && list_all p ys
all_append p [] ys = refl
all_append p (x ∷ xs) ys = ap (λ b. p x && b) (all_append p xs ys) ∙ and_assoc (p x) (list_all p xs) (list_all p ys)

pub any_at : {A : Type 0} (p : A → Bool) (xs : List A) (k : ℕ) (x : A) → slice_get xs k ≡ Some x → p x ≡ true → list_any p xs ≡ true
any_at p [] k x e h = let absent : ⊥ = cc in absurd absent
any_at p (y ∷ xs) zero x e h = let same : y ≡ x = cc in or_first (p y) (list_any p xs) (ap p same ∙ h)
any_at p (y ∷ xs) (suc k) x e h = or_second (p y) (list_any p xs) (any_at p xs k x e h)

pub some_at : {A : Type 0} (p : A → Bool) (xs : List A) → list_any p xs ≡ true → (k : ℕ) × (x : A) × (slice_get xs k ≡ Some x) × (p x ≡ true)
some_at p [] h = let absent : ⊥ = cc in absurd absent
some_at p (y ∷ xs) h = elim (or_cases (p y) (list_any p xs) h) [
  | inl here ↦ (0, y, refl, here)
  | inr rest ↦ let at = some_at p xs rest in (suc at.0, at.1, at.2, at.3)
]

pub in_either : {A : Type 0} (xs ys : List A) (z : A) (k : ℕ) → slice_get (xs ++ ys) k ≡ Some z
    → ((j : ℕ) × (slice_get xs j ≡ Some z)) ⊎ ((j : ℕ) × (slice_get ys j ≡ Some z))
in_either [] ys z k e = inr (k, e)
in_either (x ∷ xs) ys z zero e = inl (0, e)
in_either (x ∷ xs) ys z (suc k) e = elim (in_either xs ys z k e) [ inl i ↦ inl (suc i.0, i.1) | inr i ↦ inr i ]

-- what stands in a list of lists stands in one of these
pub in_flat : {A B : Type 0} (f : A → List B) (xs : List A) (z : B) (k : ℕ) → slice_get (flat_map f xs) k ≡ Some z
    → (i : ℕ) × (x : A) × (j : ℕ) × (slice_get xs i ≡ Some x) × (slice_get (f x) j ≡ Some z)
in_flat f [] z k e = let absent : ⊥ = cc in absurd absent
in_flat f (x ∷ xs) z k e = elim (in_either (f x) (flat_map f xs) z k e) [
  | inl i ↦ (0, x, i.0, refl, i.1)
  | inr i ↦ let rest = in_flat f xs z i.0 i.1 in (suc rest.0, rest.1, rest.2, rest.3, rest.4)
]

-- ---- variables

pub held_first : (v : ℕ) (xs ys : List ℕ) → holds v xs ≡ true → holds v (xs ++ ys) ≡ true
held_first v xs ys h = any_append (nat_eq v) xs ys ∙ or_first (holds v xs) (holds v ys) h

pub held_second : (v : ℕ) (xs ys : List ℕ) → holds v ys ≡ true → holds v (xs ++ ys) ≡ true
held_second v xs ys h = any_append (nat_eq v) xs ys ∙ or_second (holds v xs) (holds v ys) h

pub held_either : (v : ℕ) (xs ys : List ℕ) → holds v (xs ++ ys) ≡ true → (holds v xs ≡ true) ⊎ (holds v ys ≡ true)
held_either v xs ys h = or_cases (holds v xs) (holds v ys) (sym (any_append (nat_eq v) xs ys) ∙ h)

pub held_at : {A : Type 0} (f : A → List ℕ) (v k : ℕ) (x : A) (xs : List A) → slice_get xs k ≡ Some x → holds v (f x) ≡ true
    → holds v (flat_map f xs) ≡ true
held_at f v k x [] e q = let absent : ⊥ = cc in absurd absent
held_at {A} f v zero x (y ∷ xs) e q =
    let same : y ≡ x = cc in held_first v (f y) (flat_map f xs) (subst (λ (z : A). holds v (f z) ≡ true) (sym same) q)
held_at f v (suc k) x (y ∷ xs) e q = held_second v (f y) (flat_map f xs) (held_at f v k x xs e q)

pub linear_first : (xs ys : List ℕ) → is_linear (xs ++ ys) ≡ true → is_linear xs ≡ true
linear_first [] ys h = refl
linear_first (x ∷ xs) ys h =
    let first = and_first (not (holds x (xs ++ ys))) (is_linear (xs ++ ys)) h in
    and_both (not (holds x xs)) (is_linear xs) (not_held (holds x xs) (λ at. not_true (holds x (xs ++ ys)) first (held_first x xs ys at)))
    (linear_first xs ys (and_second (not (holds x (xs ++ ys))) (is_linear (xs ++ ys)) h))

pub linear_second : (xs ys : List ℕ) → is_linear (xs ++ ys) ≡ true → is_linear ys ≡ true
linear_second [] ys h = h
linear_second (x ∷ xs) ys h = linear_second xs ys (and_second (not (holds x (xs ++ ys))) (is_linear (xs ++ ys)) h)

pub linear_apart : (v : ℕ) (xs ys : List ℕ) → is_linear (xs ++ ys) ≡ true → holds v xs ≡ true → holds v ys ≡ true → ⊥
linear_apart v [] ys h p q = cc
linear_apart v (x ∷ xs) ys h p q = elim (or_cases (nat_eq v x) (holds v xs) p) [
  | inl here ↦
      not_true (holds x (xs ++ ys)) (and_first (not (holds x (xs ++ ys))) (is_linear (xs ++ ys)) h)
      (subst (λ (n : ℕ). holds n (xs ++ ys) ≡ true) (same_is v x here) (held_second v xs ys q))
  | inr rest ↦ linear_apart v xs ys (and_second (not (holds x (xs ++ ys))) (is_linear (xs ++ ys)) h) rest q
]

pub linear_at : {A : Type 0} (f : A → List ℕ) (k : ℕ) (x : A) (xs : List A) → slice_get xs k ≡ Some x → is_linear (flat_map f xs) ≡ true
    → is_linear (f x) ≡ true
linear_at f k x [] e h = let absent : ⊥ = cc in absurd absent
linear_at {A} f zero x (y ∷ xs) e h =
    let same : y ≡ x = cc in subst (λ (z : A). is_linear (f z) ≡ true) same (linear_first (f y) (flat_map f xs) h)
linear_at f (suc k) x (y ∷ xs) e h = linear_at f k x xs e (linear_second (f y) (flat_map f xs) h)

-- a variable in the rest isn't the first one
pub not_first : (x y : ℕ) (ys : List ℕ) → not (holds y ys) ≡ true → holds x ys ≡ true → nat_eq y x ≡ false
not_first x y ys h at =
    not_false (nat_eq y x) (λ same. not_true (holds y ys) h (subst (λ (n : ℕ). holds n ys ≡ true) (sym (same_is y x same)) at))
