-- Elements of lists that grow, and of lists in order.
use Rattle.std.proofs.Common.{◌≡◌, ℕ, zero, suc, ◌+◌, ◌<◌, ◌≤◌, ◌⊎◌, inl, inr, Bool, true, false, cond, nat_eq, nat_lt, List, [], ◌∷◌, ◌++◌, length, drop, take, slice_get, Some, refl, ap, sym, ◌∙◌, subst, arith}
use Rattle.std.proofs.lemmas.Option.{get_or_from_slice_get}
use Rattle.std.specs.BTreeMap.Range.{IsLtBy}
use Rattle.std.specs.BTreeSet.{insert_key}
use Rattle.std.specs.List.{All}
use Rattle.std.specs.Ordering.{match_ordering, nat_cmp}
use Rattle.std.specs.declared.cmp.Ordering.TheVariants.{Equal, Greater, Less}
use Rattle.std.specs.declared.cmp.Ordering.{Ordering}
use Rattle.cu_calculus.proofs.Lists.{get_prefix, get_last}
use Rattle.cu_cycles.proofs.Places.{prefix_or_last, take_less, within}
use Rattle.cu_lift.specs.Groups.{IsIn}

pub none_in : {A : Type 0} (x : A) → IsIn [] x → ⊥
none_in x (k, e) = cc

pub in_first : {A : Type 0} (x : A) (xs : List A) → IsIn (x ∷ xs) x
in_first x xs = (0, refl)

pub in_rest : {A : Type 0} (x y : A) (xs : List A) → IsIn xs x → IsIn (y ∷ xs) x
in_rest x y xs (k, e) = (suc k, e)

pub first_or_rest : {A : Type 0} (x y : A) (xs : List A) → IsIn (y ∷ xs) x → (y ≡ x) ⊎ IsIn xs x
first_or_rest x y xs (zero, e) = let same : y ≡ x = cc in inl same
first_or_rest x y xs (suc k, e) = inr (k, e)

pub in_prefix : {A : Type 0} (x : A) (xs ys : List A) → IsIn xs x → IsIn (xs ++ ys) x
in_prefix x xs ys (k, e) = (k, get_prefix xs ys k x e)

pub in_last : {A : Type 0} (x : A) (xs : List A) → IsIn (xs ++ x ∷ []) x
in_last x xs = (length xs, get_last xs x)

pub prefix_or_new : {A : Type 0} (x y : A) (xs : List A) → IsIn (xs ++ y ∷ []) x → IsIn xs x ⊎ (y ≡ x)
prefix_or_new x y xs (k, e) = elim (prefix_or_last xs y k x e) [ inl h ↦ inl (k, h) | inr h ↦ inr h.1 ]

pub taken_in : {A : Type 0} (x : A) (xs : List A) (n : ℕ) → IsIn (take n xs) x → IsIn xs x
taken_in x xs n (k, e) = (k, (take_less xs n k x e).1)

-- ---- numbers in order

less_is : (b : Bool) (k x : ℕ) → nat_lt k x ≡ b → cond b Less (cond (nat_eq k x) Equal Greater) ≡ Less → k < x
less_is true k x e h = search (arith, e)
less_is false k x e h = by (nat_eq k x) h
  where
    by : (d : Bool) → cond d Equal Greater ≡ Less → k < x
    by true h = let none : ⊥ = cc in absurd none
    by false h = let none : ⊥ = cc in absurd none

pub less_by : (k x : ℕ) → nat_cmp k x ≡ Less → k < x
less_by k x h = less_is (nat_lt k x) k x refl h

equal_is : (b d : Bool) (k x : ℕ) → nat_eq k x ≡ d → cond b Less (cond d Equal Greater) ≡ Equal → k ≡ x
equal_is true d k x e h = let none : ⊥ = cc in absurd none
equal_is false true k x e h = search (arith, e)
equal_is false false k x e h = let none : ⊥ = cc in absurd none

pub equal_by : (k x : ℕ) → nat_cmp k x ≡ Equal → k ≡ x
equal_by k x h = equal_is (nat_lt k x) (nat_eq k x) k x refl h

pub all_above : (k : ℕ) (xs : List ℕ) → All (IsLtBy nat_cmp k) xs → (x : ℕ) → IsIn xs x → k < x
all_above k xs all x (i, e) =
    less_by k x (subst (λ (y : ℕ). nat_cmp k y ≡ Less) (get_or_from_slice_get xs i x x e) (all i x (within xs i x e)))

inserted_by : (o : Ordering) (k x : ℕ) (xs more : List ℕ) → nat_cmp k x ≡ o → (IsIn more k) → ((y : ℕ) → IsIn xs y → IsIn more y)
    → ((y : ℕ) → IsIn more y → IsIn xs y ⊎ (k ≡ y))
    → IsIn (match_ordering o (k ∷ x ∷ xs) (x ∷ xs) (x ∷ more)) k
    × ((y : ℕ) → IsIn (x ∷ xs) y → IsIn (match_ordering o (k ∷ x ∷ xs) (x ∷ xs) (x ∷ more)) y)
    × ((y : ℕ) → IsIn (match_ordering o (k ∷ x ∷ xs) (x ∷ xs) (x ∷ more)) y → IsIn (x ∷ xs) y ⊎ (k ≡ y))
inserted_by Less k x xs more e new old all =
    (in_first k (x ∷ xs), λ y h. in_rest y k (x ∷ xs) h, λ y h. elim (first_or_rest y k (x ∷ xs) h) [ inl p ↦ inr p | inr p ↦ inl p ])
inserted_by Equal k x xs more e new old all =
    (subst (λ (y : ℕ). IsIn (x ∷ xs) y) (sym (equal_by k x e)) (in_first x xs), λ y h. h, λ y h. inl h)
inserted_by Greater k x xs more e new old all = (
  in_rest k x more new,
  λ y h. elim (first_or_rest y x xs h) [
    | inl p ↦ subst (λ (z : ℕ). IsIn (x ∷ more) z) p (in_first x more)
    | inr p ↦ in_rest y x more (old y p)
  ],
  λ y h. elim (first_or_rest y x more h) [
    | inl p ↦ inl (subst (λ (z : ℕ). IsIn (x ∷ xs) z) p (in_first x xs))
    | inr p ↦ elim (all y p) [ inl q ↦ inl (in_rest y x xs q) | inr q ↦ inr q ]
  ],
)

-- a number that is put among others
pub inserted : (xs : List ℕ) (k : ℕ)
    → IsIn (insert_key nat_cmp xs k) k × ((y : ℕ) → IsIn xs y → IsIn (insert_key nat_cmp xs k) y)
    × ((y : ℕ) → IsIn (insert_key nat_cmp xs k) y → IsIn xs y ⊎ (k ≡ y))
inserted [] k = (
  in_first k [],
  λ y h. absurd (none_in y h),
  λ y h. elim (first_or_rest y k [] h) [ inl p ↦ inr p | inr p ↦ absurd (none_in y p) ],
)
inserted (x ∷ xs) k =
    let rest = inserted xs k in inserted_by (nat_cmp k x) k x xs (insert_key nat_cmp xs k) refl rest.0 rest.1 rest.2

-- what is left of a list, from a place on
pub left_at : {A : Type 0} (xs : List A) (i : ℕ) (x : A) → slice_get xs i ≡ Some x → drop i xs ≡ x ∷ drop (i + 1) xs
left_at [] i x e = let no : ⊥ = cc in absurd no
left_at (y ∷ xs) zero x e = let same : y ≡ x = cc in ap (λ z. z ∷ xs) same
left_at (y ∷ xs) (suc i) x e =
    let one : suc i + 1 ≡ suc (i + 1) = omega arith in left_at xs i x e ∙ ap (λ (n : ℕ). x ∷ drop n (y ∷ xs)) (sym one)

pub left_none : {A : Type 0} (xs : List A) (i : ℕ) → length xs ≤ i → drop i xs ≡ []
left_none [] zero h = refl
left_none [] (suc i) h = refl
left_none (x ∷ xs) zero h = absurd (omega arith)
left_none (x ∷ xs) (suc i) h = left_none xs i (omega arith)
