-- Elements of lists, by their places.
use Rattle.std.proofs.Common.{◌≡◌, ◌≢◌, ℕ, zero, suc, ◌+◌, ◌-◌, ◌<◌, ◌≤◌, ◌⊎◌, inl, inr, List, [], ◌∷◌, ◌++◌, length, map, set, take, slice_get, Some, refl, ap, sym, ◌∙◌, subst, arith}

pub prefix_or_last : {A : Type 0} (xs : List A) (y : A) (k : ℕ) (x : A) → slice_get (xs ++ y ∷ []) k ≡ Some x
    → (slice_get xs k ≡ Some x) ⊎ ((k ≡ length xs) × (y ≡ x))
prefix_or_last [] y zero x e = inr (refl, cc)
prefix_or_last [] y (suc k) x e = let no : ⊥ = cc in absurd no
prefix_or_last (z ∷ xs) y zero x e = inl e
prefix_or_last (z ∷ xs) y (suc k) x e = elim (prefix_or_last xs y k x e) [ inl h ↦ inl h | inr h ↦ inr (ap suc h.0, h.1) ]

pub prefix_or_suffix : {A : Type 0} (xs ys : List A) (k : ℕ) (x : A) → slice_get (xs ++ ys) k ≡ Some x
    → (slice_get xs k ≡ Some x) ⊎ ((j : ℕ) × (k ≡ length xs + j) × (slice_get ys j ≡ Some x))
prefix_or_suffix [] ys k x e = inr (k, omega arith, e)
prefix_or_suffix (z ∷ xs) ys zero x e = inl e
prefix_or_suffix (z ∷ xs) ys (suc k) x e =
    elim (prefix_or_suffix xs ys k x e) [ inl h ↦ inl h | inr h ↦ let n : k ≡ length xs + h.0 = h.1 in inr (h.0, omega arith, h.2) ]

pub within : {A : Type 0} (xs : List A) (k : ℕ) (x : A) → slice_get xs k ≡ Some x → k < length xs
within [] k x e = let no : ⊥ = cc in absurd no
within (y ∷ xs) zero x e = omega arith
within (y ∷ xs) (suc k) x e = let rest : k < length xs = within xs k x e in omega arith

pub there : {A : Type 0} (xs : List A) (k : ℕ) → k < length xs → (x : A) × (slice_get xs k ≡ Some x)
there [] k h = absurd (omega arith)
there (y ∷ xs) zero h = (y, refl)
there (y ∷ xs) (suc k) h = there xs k (omega arith)

pub set_there : {A : Type 0} (xs : List A) (i : ℕ) (v x : A) → slice_get xs i ≡ Some x → slice_get (set xs i v) i ≡ Some v
set_there [] i v x e = let no : ⊥ = cc in absurd no
set_there (y ∷ xs) zero v x e = refl
set_there (y ∷ xs) (suc i) v x e = set_there xs i v x e

pub set_elsewhere : {A : Type 0} (xs : List A) (i k : ℕ) (v : A) → k ≢ i → slice_get (set xs i v) k ≡ slice_get xs k
set_elsewhere [] i k v h = refl
set_elsewhere (y ∷ xs) zero zero v h = absurd (h refl)
set_elsewhere (y ∷ xs) zero (suc k) v h = refl
set_elsewhere (y ∷ xs) (suc i) zero v h = refl
set_elsewhere (y ∷ xs) (suc i) (suc k) v h = set_elsewhere xs i k v (λ e. h (ap suc e))

pub same_or_not : (k i : ℕ) → (k ≡ i) ⊎ (k ≢ i)
same_or_not zero zero = inl refl
same_or_not zero (suc i) = inr (λ e. omega arith)
same_or_not (suc k) zero = inr (λ e. omega arith)
same_or_not (suc k) (suc i) = elim (same_or_not k i) [ inl e ↦ inl (ap suc e) | inr h ↦ inr (λ e. h (omega arith)) ]

pub before_or_not : (s t : ℕ) → (s < t) ⊎ (t ≤ s)
before_or_not zero zero = inr (omega arith)
before_or_not zero (suc t) = inl (omega arith)
before_or_not (suc s) zero = inr (omega arith)
before_or_not (suc s) (suc t) = elim (before_or_not s t) [ inl h ↦ inl (omega arith) | inr h ↦ inr (omega arith) ]

some_is : {A : Type 0} (x y : A) (found : List A) (k : ℕ) → slice_get found k ≡ Some x → slice_get found k ≡ Some y → x ≡ y
some_is x y found k e f = cc

pub one_element : {A : Type 0} (xs : List A) (k : ℕ) (x y : A) → slice_get xs k ≡ Some x → slice_get xs k ≡ Some y → x ≡ y
one_element xs k x y e f = some_is x y xs k e f

unset : {A : Type 0} (xs : List A) (i : ℕ) (v x : A) → slice_get (set xs i v) i ≡ Some x → v ≡ x
unset [] i v x e = let no : ⊥ = cc in absurd no
unset (y ∷ xs) zero v x e = cc
unset (y ∷ xs) (suc i) v x e = unset xs i v x e

pub set_cases : {A : Type 0} (xs : List A) (i k : ℕ) (v x : A) → slice_get (set xs i v) k ≡ Some x
    → ((k ≡ i) × (v ≡ x)) ⊎ ((k ≢ i) × (slice_get xs k ≡ Some x))
set_cases xs i k v x e = elim (same_or_not k i) [
  | inl s ↦ inl (s, unset xs i v x (subst (λ (n : ℕ). slice_get (set xs i v) n ≡ Some x) s e))
  | inr h ↦ inr (h, sym (set_elsewhere xs i k v h) ∙ e)
]

pub take_less : {A : Type 0} (xs : List A) (n k : ℕ) (x : A) → slice_get (take n xs) k ≡ Some x → (k < n) × (slice_get xs k ≡ Some x)
take_less [] zero k x e = let no : ⊥ = cc in absurd no
take_less [] (suc n) k x e = let no : ⊥ = cc in absurd no
take_less (y ∷ xs) zero k x e = let no : ⊥ = cc in absurd no
take_less (y ∷ xs) (suc n) zero x e = (omega arith, e)
take_less (y ∷ xs) (suc n) (suc k) x e =
    let rest = take_less xs n k x e in let less : k < n = rest.0 in (omega arith, rest.1)

pub take_keeps : {A : Type 0} (xs : List A) (n k : ℕ) (x : A) → k < n → slice_get xs k ≡ Some x → slice_get (take n xs) k ≡ Some x
take_keeps xs zero k x h e = absurd (omega arith)
take_keeps [] (suc n) k x h e = let no : ⊥ = cc in absurd no
take_keeps (y ∷ xs) (suc n) zero x h e = e
take_keeps (y ∷ xs) (suc n) (suc k) x h e = take_keeps xs n k x (omega arith) e

pub no_length : {A : Type 0} (xs : List A) → length xs ≡ 0 → xs ≡ []
no_length [] e = refl
no_length (x ∷ xs) e = absurd (omega arith)

pub not_empty : {A : Type 0} (xs : List A) (y : A) → xs ++ y ∷ [] ≡ [] → ⊥
not_empty [] y e = cc
not_empty (x ∷ xs) y e = cc

at_last : {A : Type 0} (xs : List A) (n : ℕ) (x : A) → length xs ≡ suc n → slice_get xs n ≡ Some x → xs ≡ take n xs ++ x ∷ []
at_last [] n x h e = let no : ⊥ = cc in absurd no
at_last (y ∷ []) zero x h e = let same : y ≡ x = cc in ap (λ z. z ∷ []) same
at_last (y ∷ []) (suc n) x h e = let no : ⊥ = cc in absurd no
at_last (y ∷ z ∷ xs) zero x h e = absurd (omega arith)
at_last (y ∷ z ∷ xs) (suc n) x h e = ap (λ zs. y ∷ zs) (at_last (z ∷ xs) n x (omega arith) e)

pub last_place : {A : Type 0} (xs : List A) (x : A) → slice_get xs (length xs - 1) ≡ Some x → 0 < length xs
last_place [] x e = let no : ⊥ = cc in absurd no
last_place (y ∷ xs) x e = omega arith

-- a list whose last element went
pub split_last : {A : Type 0} (xs rest : List A) (n : ℕ) (x : A) → slice_get xs (length xs - 1) ≡ Some x → n ≡ length xs
    → rest ≡ take (n - 1) xs → xs ≡ rest ++ x ∷ []
split_last xs rest n x e size taken =
    let some : 0 < length xs = last_place xs x e in
    let whole : xs ≡ take (length xs - 1) xs ++ x ∷ [] = at_last xs (length xs - 1) x (omega arith) e in
    whole ∙ ap (λ k. take (k - 1) xs ++ x ∷ []) (sym size) ∙ ap (λ ys. ys ++ x ∷ []) (sym taken)

pub nothing_after : {A : Type 0} (xs : List A) → xs ≡ xs ++ []
nothing_after [] = refl
nothing_after (x ∷ xs) = ap (λ ys. x ∷ ys) (nothing_after xs)

pub take_prefix : {A : Type 0} (xs ys : List A) → take (length xs) (xs ++ ys) ≡ xs
take_prefix [] [] = refl
take_prefix [] (y ∷ ys) = refl
take_prefix (x ∷ xs) ys = ap (λ zs. x ∷ zs) (take_prefix xs ys)

pub get_map : {A B : Type 0} (f : A → B) (xs : List A) (k : ℕ) (x : A) → slice_get xs k ≡ Some x → slice_get (map f xs) k ≡ Some (f x)
get_map f [] k x h = let no : ⊥ = cc in absurd no
get_map f (y ∷ xs) zero x h = let same : y ≡ x = cc in ap (λ z. Some (f z)) same
get_map f (y ∷ xs) (suc k) x h = get_map f xs k x h

pub mapped_at : {A B : Type 0} (f : A → B) (xs : List A) (k : ℕ) (y : B) → slice_get (map f xs) k ≡ Some y → (x : A) × (slice_get xs k ≡ Some x) × (f x ≡ y)
mapped_at f [] k y e = let no : ⊥ = cc in absurd no
mapped_at f (x ∷ xs) zero y e = (x, refl, cc)
mapped_at f (x ∷ xs) (suc k) y e = mapped_at f xs k y e
