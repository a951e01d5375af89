-- Places in lists that are put together, and tests of all elements.
use Rattle.std.proofs.Common.{◌≡◌, ℕ, zero, suc, ◌+◌, Bool, List, [], ◌∷◌, ◌++◌, length, map, slice_get, Some, IsTrue, refl, ap, sym, ◌∙◌, arith}
use Rattle.std.specs.List.{list_all}
use Rattle.std.proofs.lemmas.Bool.{and_from, and_parts}

-- what stands in a list stands at the same place when more follows
pub get_prefix : {A : Type 0} (xs ys : List A) (k : ℕ) (x : A) → slice_get xs k ≡ Some x → slice_get (xs ++ ys) k ≡ Some x
get_prefix [] ys k x h = let no : ⊥ = cc in absurd no
get_prefix (y ∷ xs) ys zero x h = h
get_prefix (y ∷ xs) ys (suc k) x h = get_prefix xs ys k x h

-- and as many places further when others precede
pub get_suffix : {A : Type 0} (xs ys : List A) (k : ℕ) → slice_get (xs ++ ys) (length xs + k) ≡ slice_get ys k
get_suffix [] ys k = let same : 0 + k ≡ k = omega arith in ap (slice_get ys) same
get_suffix (x ∷ xs) ys k =
    let same : suc (length xs) + k ≡ suc (length xs + k) = omega arith in
    ap (slice_get (x ∷ (xs ++ ys))) same ∙ get_suffix xs ys k

-- the last element
pub get_last : {A : Type 0} (xs : List A) (x : A) → slice_get (xs ++ x ∷ []) (length xs) ≡ Some x
get_last [] x = refl
get_last (y ∷ xs) x = get_last xs x

-- an element of a list that a map was put over
pub get_map : {A B : Type 0} (f : A → B) (xs : List A) (k : ℕ) (x : A) → slice_get xs k ≡ Some x → slice_get (map f xs) k ≡ Some (f x)
get_map f [] k x h = let no : ⊥ = cc in absurd no
get_map f (y ∷ xs) zero x h = let same : y ≡ x = cc in ap (λ z. Some (f z)) same
get_map f (y ∷ xs) (suc k) x h = get_map f xs k x h

-- a test that all elements pass is passed by each
pub passed_at : {A : Type 0} (test : A → Bool) (xs : List A) (k : ℕ) (x : A) → IsTrue (list_all test xs) → slice_get xs k ≡ Some x → IsTrue (test x)
passed_at test [] k x h e = let no : ⊥ = cc in absurd no
passed_at test (y ∷ xs) zero x h e = let same : y ≡ x = cc in ap test (sym same) ∙ (and_parts (test y) (list_all test xs) h).0
passed_at test (y ∷ xs) (suc k) x h e = passed_at test xs k x (and_parts (test y) (list_all test xs) h).1 e

pub all_append : {A : Type 0} (test : A → Bool) (xs ys : List A) → IsTrue (list_all test xs) → IsTrue (list_all test ys) → IsTrue (list_all test (xs ++ ys))
all_append test [] ys h k = k
all_append test (x ∷ xs) ys h k =
    let parts = and_parts (test x) (list_all test xs) h in and_from (test x) (list_all test (xs ++ ys)) parts.0 (all_append test xs ys parts.1 k)
