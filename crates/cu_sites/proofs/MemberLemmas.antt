-- Members of lists, and of lists that are made of others.
use Rattle.std.specs.Prelude.{◌≡◌, ◌⊎◌, ◌<◌, ℕ, zero, suc, Bool, true, false, Contains, List, [], ◌∷◌, ◌++◌, flat_map, length, map, slice_index_or, refl, ◌||◌}
use Rattle.std.specs.List.{filter, list_any}
use Rattle.std.proofs.lemmas.List.{append-nil, append_assoc}
use Rattle.std.proofs.Common.{ap, ◌∙◌, arith, sym, subst, inl, inr}
use Rattle.std.proofs.lemmas.Bool.{or_cases}

pub data Among {X : Type 0} (x : X) : List X → Type 0 where
  here : (xs : List X) → Among x (x ∷ xs)
  there : (y : X) (xs : List X) → Among x xs → Among x (y ∷ xs)

pub in_map : {X Y : Type 0} (f : X → Y) (x : X) (xs : List X) → Among x xs → Among (f x) (map f xs)
in_map f x _ (here xs) = here (map f xs)
in_map f x _ (there y xs a) = there (f y) (map f xs) (in_map f x xs a)

pub in_left : {X : Type 0} (x : X) (xs ys : List X) → Among x xs → Among x (xs ++ ys)
in_left x _ ys (here xs) = here (xs ++ ys)
in_left x _ ys (there y xs a) = there y (xs ++ ys) (in_left x xs ys a)

pub in_right : {X : Type 0} (x : X) (xs ys : List X) → Among x ys → Among x (xs ++ ys)
in_right x [] ys a = a
in_right x (y ∷ xs) ys a = there y (xs ++ ys) (in_right x xs ys a)

pub in_flat_map : {X Y : Type 0} (f : X → List Y) (y : Y) (x : X) (xs : List X) → Among x xs → Among y (f x) → Among y (flat_map f xs)
in_flat_map f y x _ (here xs) b = in_left y (f x) (flat_map f xs) b
in_flat_map f y x _ (there z xs a) b = in_right y (f z) (flat_map f xs) (in_flat_map f y x xs a b)

pub none_among : {X : Type 0} (x : X) → Among x [] → ⊥
none_among x a = elim a [ ]

pub among_cons : {X : Type 0} (x y : X) (ys : List X) → Among x (y ∷ ys) → (x ≡ y) ⊎ Among x ys
among_cons x _ _ (here ys) = inl refl
among_cons x _ _ (there y ys a) = inr a

pub record Mapped {X Y : Type 0} (f : X → Y) (y : Y) (xs : List X) : Type 0 where
  pub x : X
  pub among : Among x xs
  pub is : y ≡ f x

pub from_map_cons : {X Y : Type 0} (f : X → Y) (y : Y) (x : X) (xs : List X) → (y ≡ f x) ⊎ Among y (map f xs)
    → (Among y (map f xs) → Mapped f y xs) → Mapped f y (x ∷ xs)
from_map_cons f y x xs (inl e) go = record { x = x; among = here xs; is = e }
from_map_cons f y x xs (inr a) go = let m = go a in record { x = m.x; among = there x xs m.among; is = m.is }

pub from_map : {X Y : Type 0} (f : X → Y) (y : Y) (xs : List X) → Among y (map f xs) → Mapped f y xs
from_map f y [] a = absurd (none_among y a)
from_map f y (x ∷ xs) a = from_map_cons f y x xs (among_cons y (f x) (map f xs) a) (from_map f y xs)

pub in_tail : {X : Type 0} (x y : X) (xs ys : List X) → Among x xs ⊎ Among x ys → Among x (y ∷ xs) ⊎ Among x ys
in_tail x y xs ys (inl a) = inl (there y xs a)
in_tail x y xs ys (inr a) = inr a

pub from_append_cons : {X : Type 0} (x y : X) (xs ys : List X) → (x ≡ y) ⊎ Among x (xs ++ ys)
    → (Among x (xs ++ ys) → Among x xs ⊎ Among x ys) → Among x (y ∷ xs) ⊎ Among x ys
from_append_cons x y xs ys (inl e) go = inl (subst (λ z. Among z (y ∷ xs)) (sym e) (here xs))
from_append_cons x y xs ys (inr a) go = in_tail x y xs ys (go a)

pub from_append : {X : Type 0} (x : X) (xs ys : List X) → Among x (xs ++ ys) → Among x xs ⊎ Among x ys
from_append x [] ys a = inr a
from_append x (y ∷ xs) ys a = from_append_cons x y xs ys (among_cons x y (xs ++ ys) a) (from_append x xs ys)

pub record Joined {X Y : Type 0} (f : X → List Y) (y : Y) (xs : List X) : Type 0 where
  pub x : X
  pub among : Among x xs
  pub inside : Among y (f x)

pub from_flat_map_cons : {X Y : Type 0} (f : X → List Y) (y : Y) (x : X) (xs : List X) → Among y (f x) ⊎ Among y (flat_map f xs)
    → (Among y (flat_map f xs) → Joined f y xs) → Joined f y (x ∷ xs)
from_flat_map_cons f y x xs (inl a) go = record { x = x; among = here xs; inside = a }
from_flat_map_cons f y x xs (inr a) go = let j = go a in record { x = j.x; among = there x xs j.among; inside = j.inside }

pub from_flat_map : {X Y : Type 0} (f : X → List Y) (y : Y) (xs : List X) → Among y (flat_map f xs) → Joined f y xs
from_flat_map f y [] a = absurd (none_among y a)
from_flat_map f y (x ∷ xs) a = from_flat_map_cons f y x xs (from_append y (f x) (flat_map f xs) a) (from_flat_map f y xs)

-- ---- tests of members

any_after : (a b : Bool) → b ≡ true → (a || b) ≡ true
any_after true b e = refl
any_after false b e = e

pub any_from : {X : Type 0} (p : X → Bool) (x : X) (xs : List X) → Among x xs → p x ≡ true → list_any p xs ≡ true
any_from p x _ (here xs) e = rw e refl
any_from p x _ (there y xs a) e = any_after (p y) (list_any p xs) (any_from p x xs a e)

pub record Passing {X : Type 0} (p : X → Bool) (xs : List X) : Type 0 where
  pub x : X
  pub among : Among x xs
  pub passes : p x ≡ true

any_first : {X : Type 0} (p : X → Bool) (x : X) (xs : List X) → (p x ≡ true) ⊎ (list_any p xs ≡ true)
    → (list_any p xs ≡ true → Passing p xs) → Passing p (x ∷ xs)
any_first p x xs (inl e) go = record { x = x; among = here xs; passes = e }
any_first p x xs (inr e) go = let g = go e in record { x = g.x; among = there x xs g.among; passes = g.passes }

pub any_to : {X : Type 0} (p : X → Bool) (xs : List X) → list_any p xs ≡ true → Passing p xs
any_to p [] e = let no : ⊥ = cc in absurd no
any_to p (x ∷ xs) e = any_first p x xs (or_cases (p x) (list_any p xs) e) (any_to p xs)

kept : {X : Type 0} (x y : X) (ys zs : List X) → (x ≡ y) ⊎ Among x zs → (Among x zs → Among x ys) → Among x (y ∷ ys)
kept x y ys zs (inl e) go = subst (λ z. Among z (y ∷ ys)) (sym e) (here ys)
kept x y ys zs (inr a) go = there y ys (go a)

from_filter_first : {X : Type 0} (t : X → Bool) (x y : X) (ys : List X) (b : Bool) → t y ≡ b → Among x (filter t (y ∷ ys))
    → (Among x (filter t ys) → Among x ys) → Among x (y ∷ ys)
from_filter_first t x y ys true e a go =
    let a' : Among x (y ∷ filter t ys) = rw e at a in kept x y ys (filter t ys) (among_cons x y (filter t ys) a') go
from_filter_first t x y ys false e a go = let a' : Among x (filter t ys) = rw e at a in there y ys (go a')

pub from_filter : {X : Type 0} (t : X → Bool) (x : X) (xs : List X) → Among x (filter t xs) → Among x xs
from_filter t x [] a = absurd (none_among x a)
from_filter t x (y ∷ ys) a = from_filter_first t x y ys (t y) refl a (from_filter t x ys)

-- ---- and as places of lists

at_place : {X : Type 0} (x : X) (xs : List X) (k : ℕ) → k < length xs → slice_index_or xs k x ≡ x → Among x xs
at_place x [] k l e = absurd (omega (arith, l))
at_place x (y ∷ ys) zero l e = let e' : y ≡ x = e in subst (λ z. Among x (z ∷ ys)) (sym e') (here ys)
at_place x (y ∷ ys) (suc k) l e = there y ys (at_place x ys k (omega (arith, l)) e)

pub to_among : {X : Type 0} (x : X) (xs : List X) → Contains xs x → Among x xs
to_among x xs c = at_place x xs c.0 c.1 c.2

pub from_among : {X : Type 0} (x : X) (xs : List X) → Among x xs → Contains xs x
from_among x _ (here xs) = (0, omega arith, refl)
from_among x _ (there y xs a) = let c = from_among x xs a in (suc c.0, omega (arith, c.1), c.2)

-- ---- lists made of lists

pub one_more : {X Y : Type 0} (f : X → List Y) (xs : List X) (x : X) → flat_map f (xs ++ x ∷ []) ≡ flat_map f xs ++ f x
one_more f [] x = append-nil (f x)
one_more f (y ∷ xs) x = ap (λ zs. f y ++ zs) (one_more f xs x) ∙ sym (append_assoc (f y) (flat_map f xs) (f x))
