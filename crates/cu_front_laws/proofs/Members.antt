-- Members of lists, and lists that stand one after another.
use Rattle.std.proofs.Common.{◌≡◌, ◌∙◌, ◌⊎◌, inl, inr, ◌<◌, ◌≤◌, ◌+◌, ℕ, zero, suc, Bool, true, false, List, [], ◌∷◌, ◌++◌, Some, length, map, refl, sym, ap, subst, arith, if◌then◌else◌}
use Rattle.std.proofs.lemmas.List.{append-nil, append_assoc, length-append, map-append}
use Rattle.std.specs.List.{filter, flat_map, slice_get}
use Rattle.std.specs.Prelude.{slice_index_or}

-- ---- members

abbrev pub In : {A : Type 0} → A → List A → Type 0
In x [] = ⊥
In x (y ∷ ys) = (x ≡ y) ⊎ In x ys

-- all of a list have a property
abbrev pub Every : {A : Type 0} → (A → Type 0) → List A → Type 0
Every P [] = Unit {0}
Every P (x ∷ xs) = P x × Every P xs

abbrev pub Sub : {A : Type 0} → List A → List A → Type 0
Sub {A} xs ys = (x : A) → In x xs → In x ys

module _ {A : Type 0} where
  pub in_left : (x : A) (xs ys : List A) → In x xs → In x (xs ++ ys)
  in_left x [] ys h = absurd h
  in_left x (y ∷ xs) ys (inl e) = inl e
  in_left x (y ∷ xs) ys (inr h) = inr (in_left x xs ys h)

  pub in_right : (x : A) (xs ys : List A) → In x ys → In x (xs ++ ys)
  in_right x [] ys h = h
  in_right x (y ∷ xs) ys h = inr (in_right x xs ys h)

  pub sub_left : (xs ys zs : List A) → Sub (xs ++ ys) zs → Sub xs zs
  sub_left xs ys zs s x h = s x (in_left x xs ys h)

  pub sub_right : (xs ys zs : List A) → Sub (xs ++ ys) zs → Sub ys zs
  sub_right xs ys zs s x h = s x (in_right x xs ys h)

  pub sub_self : (xs : List A) → Sub xs xs
  sub_self xs x h = h

  pub every_in : (P : A → Type 0) (xs : List A) → Every P xs → (x : A) → In x xs → P x
  every_in P [] every x h = absurd h
  every_in P (y ∷ xs) every x (inl e) = subst P (sym e) every.0
  every_in P (y ∷ xs) every x (inr h) = every_in P xs every.1 x h

  pub every_from : (P : A → Type 0) (xs : List A) → ((x : A) → In x xs → P x) → Every P xs
  every_from P [] all = tt
  every_from P (x ∷ xs) all = (all x (inl refl), every_from P xs (λ y h. all y (inr h)))

  pub every_append : (P : A → Type 0) (xs ys : List A) → Every P xs → Every P ys → Every P (xs ++ ys)
  every_append P [] ys one two = two
  every_append P (x ∷ xs) ys one two = (one.0, every_append P xs ys one.1 two)

  pub every_left : (P : A → Type 0) (xs ys : List A) → Every P (xs ++ ys) → Every P xs
  every_left P [] ys every = tt
  every_left P (x ∷ xs) ys every = (every.0, every_left P xs ys every.1)

  pub every_right : (P : A → Type 0) (xs ys : List A) → Every P (xs ++ ys) → Every P ys
  every_right P [] ys every = every
  every_right P (x ∷ xs) ys every = every_right P xs ys every.1

  pub every_weaker : (P Q : A → Type 0) (xs : List A) → ((x : A) → P x → Q x) → Every P xs → Every Q xs
  every_weaker P Q [] go every = tt
  every_weaker P Q (x ∷ xs) go every = (go x every.0, every_weaker P Q xs go every.1)

  pub every_filter : (P : A → Type 0) (test : A → Bool) (xs : List A) → Every P xs → Every P (filter test xs)
  every_filter P test [] every = tt
  every_filter P test (x ∷ xs) every = by (test x) (every_filter P test xs every.1)
    where
      by : (b : Bool) → Every P (filter test xs) → Every P (if b then x ∷ filter test xs else filter test xs)
      by true later = (every.0, later)
      by false later = later

  pub every_at : (P : A → Type 0) (xs : List A) (i : ℕ) (x : A) → Every P xs → slice_get xs i ≡ Some x → P x
  every_at P [] i x every e = absurd cc
  every_at P (y ∷ xs) zero x every e =
      let same : y ≡ x = cc in
      subst P same every.0
  every_at P (y ∷ xs) (suc i) x every e = every_at P xs i x every.1 e

  pub place_of : (x : A) (xs : List A) → In x xs → (i : ℕ) × (slice_get xs i ≡ Some x)
  place_of x [] h = absurd h
  place_of x (y ∷ xs) (inl e) = (0, ap Some (sym e))
  place_of x (y ∷ xs) (inr h) = let found = place_of x xs h in (suc found.0, found.1)

  pub in_at : (xs : List A) (i : ℕ) (x : A) → slice_get xs i ≡ Some x → In x xs
  in_at [] i x e = absurd cc
  in_at (y ∷ xs) zero x e =
      let same : y ≡ x = cc in
      inl (sym same)
  in_at (y ∷ xs) (suc i) x e = inr (in_at xs i x e)

  -- an element stands in the first list or in the second
  pub at_either : (xs ys : List A) (i : ℕ) (x : A) → slice_get (xs ++ ys) i ≡ Some x
      → (slice_get xs i ≡ Some x) ⊎ ((k : ℕ) × (i ≡ length xs + k) × (slice_get ys k ≡ Some x))
  at_either [] ys i x e = inr (i, omega arith, e)
  at_either (y ∷ xs) ys zero x e = inl e
  at_either (y ∷ xs) ys (suc i) x e = go (at_either xs ys i x e)
    where
      go : (slice_get xs i ≡ Some x) ⊎ ((k : ℕ) × (i ≡ length xs + k) × (slice_get ys k ≡ Some x))
          → (slice_get xs i ≡ Some x) ⊎ ((k : ℕ) × (suc i ≡ length (y ∷ xs) + k) × (slice_get ys k ≡ Some x))
      go (inl h) = inl h
      go (inr h) = let e = h.1 in inr (h.0, omega arith, h.2)

  pub at_left : (xs ys : List A) (i : ℕ) → i < length xs → slice_get (xs ++ ys) i ≡ slice_get xs i
  at_left [] ys i h = absurd (omega arith)
  at_left (x ∷ xs) ys zero h = refl
  at_left (x ∷ xs) ys (suc i) h = at_left xs ys i (omega arith)

  pub at_right : (xs ys : List A) (k : ℕ) → slice_get (xs ++ ys) (length xs + k) ≡ slice_get ys k
  at_right [] ys k =
      let e : length {A = A} [] + k ≡ k = omega arith in
      ap (slice_get ys) e
  at_right (x ∷ xs) ys k =
      let e : length (x ∷ xs) + k ≡ suc (length xs + k) = omega arith in
      ap (slice_get (x ∷ (xs ++ ys))) e ∙ at_right xs ys k

module _ {A B : Type 0} where
  pub in_map : (f : A → B) (x : A) (xs : List A) → In x xs → In (f x) (map f xs)
  in_map f x [] h = absurd h
  in_map f x (y ∷ xs) (inl e) = inl (ap f e)
  in_map f x (y ∷ xs) (inr h) = inr (in_map f x xs h)

  pub in_flat_map : (f : A → List B) (x : A) (xs : List A) (y : B) → In x xs → In y (f x) → In y (flat_map f xs)
  in_flat_map f x [] y h i = absurd h
  in_flat_map f x (z ∷ xs) y (inl e) i = in_left y (f z) (flat_map f xs) (subst (λ (w : A). In y (f w)) e i)
  in_flat_map f x (z ∷ xs) y (inr h) i = in_right y (f z) (flat_map f xs) (in_flat_map f x xs y h i)

  pub every_map : (P : B → Type 0) (f : A → B) (xs : List A) → Every (λ x. P (f x)) xs → Every P (map f xs)
  every_map P f [] every = tt
  every_map P f (x ∷ xs) every = (every.0, every_map P f xs every.1)

  pub every_flat_map : (P : B → Type 0) (f : A → List B) (xs : List A) → Every (λ x. Every P (f x)) xs → Every P (flat_map f xs)
  every_flat_map P f [] every = tt
  every_flat_map P f (x ∷ xs) every = every_append P (f x) (flat_map f xs) every.0 (every_flat_map P f xs every.1)

-- ---- the lists of numbers up to one, each after those before it

abbrev pub gather : {A : Type 0} → (ℕ → List A) → ℕ → List A
gather f zero = f zero
gather f (suc k) = gather f k ++ f (suc k)

-- how many stand before those of a number
abbrev pub start_of : {A : Type 0} → (ℕ → List A) → ℕ → ℕ
start_of f zero = 0
start_of f (suc k) = length (gather f k)

-- where an element stands: in the list of a number not above the last
pub record Stands {A : Type 0} (f : ℕ → List A) (n i : ℕ) (x : A) : Type 0 where
  pub home : ℕ
  pub place : ℕ
  pub among : home ≤ n
  pub is : i ≡ start_of f home + place
  pub at : slice_get (f home) place ≡ Some x

pub compare : (j k : ℕ) → (j < k) ⊎ ((j ≡ k) ⊎ (k < j))
compare zero zero = inr (inl refl)
compare zero (suc k) = inl (omega arith)
compare (suc j) zero = inr (inr (omega arith))
compare (suc j) (suc k) = go (compare j k)
  where
    go : (j < k) ⊎ ((j ≡ k) ⊎ (k < j)) → (suc j < suc k) ⊎ ((suc j ≡ suc k) ⊎ (suc k < suc j))
    go (inl h) = inl (omega arith)
    go (inr (inl h)) = inr (inl (ap suc h))
    go (inr (inr h)) = inr (inr (omega arith))

-- a number is the last one, or one before it
pub last_or_before : (k n : ℕ) → k ≤ suc n → (k ≡ suc n) ⊎ (k ≤ n)
last_or_before k n h = go (compare k (suc n))
  where
    go : (k < suc n) ⊎ ((k ≡ suc n) ⊎ (suc n < k)) → (k ≡ suc n) ⊎ (k ≤ n)
    go (inl below) = inr (omega arith)
    go (inr (inl e)) = inl e
    go (inr (inr above)) = absurd (omega arith)

module _ {A : Type 0} (f : ℕ → List A) where
  pub length_gather : (k : ℕ) → length (gather f k) ≡ start_of f k + length (f k)
  length_gather zero = omega arith
  length_gather (suc k) = length-append (gather f k) (f (suc k))

  stands_more : (n i : ℕ) (x : A) → ((slice_get (gather f n) i ≡ Some x) → Stands f n i x)
      → (slice_get (gather f n) i ≡ Some x) ⊎ ((k : ℕ) × (i ≡ length (gather f n) + k) × (slice_get (f (suc n)) k ≡ Some x)) → Stands f (suc n) i x
  stands_more n i x go (inl h) =
      let s = go h in
      let least = s.among in
      record { home = s.home; place = s.place; among = omega arith; is = s.is; at = s.at }
  stands_more n i x go (inr h) = record { home = suc n; place = h.0; among = omega arith; is = h.1; at = h.2 }

  pub stands : (n i : ℕ) (x : A) → slice_get (gather f n) i ≡ Some x → Stands f n i x
  stands zero i x e = record { home = 0; place = i; among = omega arith; is = omega arith; at = e }
  stands (suc n) i x e = stands_more n i x (stands n i x) (at_either (gather f n) (f (suc n)) i x e)

  rise_more : (j k : ℕ) → ((j < k) → start_of f j + length (f j) ≤ start_of f k) → j < suc k → (j < k) ⊎ ((j ≡ k) ⊎ (k < j))
      → start_of f j + length (f j) ≤ length (gather f k)
  rise_more j k go h (inl below) = let later = go below in let all = length_gather k in omega arith
  rise_more j k go h (inr (inl e)) =
      let same : start_of f j + length (f j) ≡ start_of f k + length (f k) = ap (λ i. start_of f i + length (f i)) e in
      let all = length_gather k in
      omega arith
  rise_more j k go h (inr (inr above)) = absurd (omega arith)

  -- the list of a later number begins after the list of an earlier one
  pub starts_rise : (j k : ℕ) → j < k → start_of f j + length (f j) ≤ start_of f k
  starts_rise j zero h = absurd (omega arith)
  starts_rise j (suc k) h = rise_more j k (starts_rise j k) h (compare j k)

  at_more : (n k p : ℕ) → ((k ≤ n) → slice_get (gather f n) (start_of f k + p) ≡ slice_get (f k) p) → p < length (f k) → (k ≡ suc n) ⊎ (k ≤ n)
      → slice_get (gather f n ++ f (suc n)) (start_of f k + p) ≡ slice_get (f k) p
  at_more n k p go within (inl e) =
      ap (λ i. slice_get (gather f n ++ f (suc n)) (start_of f i + p)) e
      ∙ at_right (gather f n) (f (suc n)) p ∙ ap (λ i. slice_get (f i) p) (sym e)
  at_more n k p go within (inr below) =
      let next = starts_rise k (suc n) (omega arith) in
      at_left (gather f n) (f (suc n)) (start_of f k + p) (omega arith) ∙ go below

  pub at_gather : (n k p : ℕ) → k ≤ n → p < length (f k) → slice_get (gather f n) (start_of f k + p) ≡ slice_get (f k) p
  at_gather zero k p h within =
      let none : k ≡ 0 = omega arith in
      let first : start_of f k ≡ 0 = ap (start_of f) none in
      let e : start_of f k + p ≡ p = omega arith in
      ap (slice_get (f 0)) e ∙ ap (λ i. slice_get (f i) p) (sym none)
  at_gather (suc n) k p h within = at_more n k p (λ below. at_gather n k p below within) within (last_or_before k n h)

  one_of : (j k p q : ℕ) → p < length (f j) → q < length (f k) → start_of f j + p ≡ start_of f k + q → (j < k) ⊎ ((j ≡ k) ⊎ (k < j))
      → (j ≡ k) × (p ≡ q)
  one_of j k p q in_j in_k e (inl h) = let rise = starts_rise j k h in absurd (omega arith)
  one_of j k p q in_j in_k e (inr (inl h)) =
      let same : start_of f j ≡ start_of f k = ap (start_of f) h in
      (h, omega arith)
  one_of j k p q in_j in_k e (inr (inr h)) = let rise = starts_rise k j h in absurd (omega arith)

  -- one place alone has a number
  pub one_home : (j k p q : ℕ) → p < length (f j) → q < length (f k) → start_of f j + p ≡ start_of f k + q → (j ≡ k) × (p ≡ q)
  one_home j k p q in_j in_k e = one_of j k p q in_j in_k e (compare j k)

-- lists of the same lengths begin at the same places
pub starts_same : {A B : Type 0} (f : ℕ → List A) (g : ℕ → List B) → ((k : ℕ) → length (f k) ≡ length (g k)) → (k : ℕ) → start_of f k ≡ start_of g k
starts_same f g same zero = refl
starts_same f g same (suc k) =
    length_gather f k ∙ (λ j. starts_same f g same k j + same k j) ∙ sym (length_gather g k)

-- what each number's list maps to
pub map_gather : {A B : Type 0} (v : A → B) (f : ℕ → List A) (n : ℕ) → map v (gather f n) ≡ gather (λ k. map v (f k)) n
map_gather v f zero = refl
map_gather v f (suc n) = map-append v (gather f n) (f (suc n)) ∙ ap (λ xs. xs ++ map v (f (suc n))) (map_gather v f n)

pub gather_same : {A : Type 0} (f g : ℕ → List A) → ((k : ℕ) → f k ≡ g k) → (n : ℕ) → gather f n ≡ gather g n
gather_same f g same zero = same zero
gather_same f g same (suc n) = λ j. gather_same f g same n j ++ same (suc n) j

pub every_gather : {A : Type 0} (P : A → Type 0) (f : ℕ → List A) (n : ℕ) → ((k : ℕ) → k ≤ n → Every P (f k)) → Every P (gather f n)
every_gather P f zero each = each zero (omega arith)
every_gather P f (suc n) each =
    every_append P (gather f n) (f (suc n)) (every_gather P f n (λ k h. each k (omega arith))) (each (suc n) (omega arith))

-- the first list, and the others
pub gather_first : {A : Type 0} (f : ℕ → List A) (n : ℕ) → gather f (suc n) ≡ f 0 ++ gather (λ k. f (suc k)) n
gather_first f zero = refl
gather_first f (suc n) =
    ap (λ xs. xs ++ f (suc (suc n))) (gather_first f n) ∙ append_assoc (f 0) (gather (λ k. f (suc k)) n) (f (suc (suc n)))

-- the lists of the elements of a list
pub gathered : {A B : Type 0} (f : A → List B) (d : A) (x : A) (xs : List A)
    → gather (λ k. f (slice_index_or (x ∷ xs) k d)) (length xs) ≡ flat_map f (x ∷ xs)
gathered f d x [] = sym (append-nil (f x))
gathered f d x (y ∷ xs) =
    gather_first (λ k. f (slice_index_or (x ∷ y ∷ xs) k d)) (length xs) ∙ ap (λ zs. f x ++ zs) (gathered f d y xs)
