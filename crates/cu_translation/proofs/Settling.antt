-- Tests of the elements of a list that grow step by step settle after as many steps as there are elements: each step before that adds
-- an element that passes.
use Rattle.std.specs.Prelude.{◌≡◌, ◌⊎◌, ◌+◌, ◌≤◌, ℕ, zero, suc, Bool, true, false, List, [], ◌∷◌, length, refl}
use Rattle.std.proofs.Common.{ap₂, arith, sym, inl, inr}
use Rattle.cu_translation.proofs.Members.{Among, here, there}

-- both tests agree on all elements
abbrev pub AllSame : {X : Type 0} → (X → Bool) → (X → Bool) → List X → Type 0
AllSame p q [] = Unit {0}
AllSame p q (x ∷ xs) = (p x ≡ q x) × AllSame p q xs

pub all_same : {X : Type 0} (p q : X → Bool) (xs : List X) → ((x : X) → p x ≡ q x) → AllSame p q xs
all_same p q [] h = tt
all_same p q (x ∷ xs) h = (h x, all_same p q xs h)

pub same_at : {X : Type 0} (p q : X → Bool) (x : X) (xs : List X) → AllSame p q xs → Among x xs → p x ≡ q x
same_at p q x _ s (here xs) = s.0
same_at p q x _ s (there y xs a) = same_at p q x xs s.1 a

abbrev one : Bool → ℕ
one true = 1
one false = 0

abbrev count : {X : Type 0} → (X → Bool) → List X → ℕ
count p [] = 0
count p (x ∷ xs) = one (p x) + count p xs

bounded_first : (b : Bool) (n m : ℕ) → n ≤ m → one b + n ≤ suc m
bounded_first true n m l = omega (arith, l)
bounded_first false n m l = omega (arith, l)

bounded : {X : Type 0} (p : X → Bool) (xs : List X) → count p xs ≤ length xs
bounded p [] = omega arith
bounded p (x ∷ xs) = bounded_first (p x) (count p xs) (length xs) (bounded p xs)

grow : (a b : Bool) → (a ≡ true → b ≡ true) → (m n : ℕ) → (m ≡ n) ⊎ (suc m ≤ n)
    → ((b ≡ a) × (m ≡ n)) ⊎ (suc (one a + m) ≤ one b + n)
grow true true h m n (inl e) = inl (refl, e)
grow true true h m n (inr l) = inr (omega (arith, l))
grow false false h m n (inl e) = inl (refl, e)
grow false false h m n (inr l) = inr (omega (arith, l))
grow false true h m n (inl e) = inr (omega (arith, e))
grow false true h m n (inr l) = inr (omega (arith, l))
grow true false h m n c = let e = h refl in let no : ⊥ = cc in absurd no

-- The tests are the same, or more elements pass.
abbrev Grown : {X : Type 0} → (X → Bool) → (X → Bool) → List X → Type 0
Grown p q xs = (AllSame q p xs × (count p xs ≡ count q xs)) ⊎ (suc (count p xs) ≤ count q xs)

after_same : {X : Type 0} (p q : X → Bool) (x : X) (xs : List X) → AllSame q p xs
    → ((q x ≡ p x) × (count p xs ≡ count q xs)) ⊎ (suc (one (p x) + count p xs) ≤ one (q x) + count q xs) → Grown p q (x ∷ xs)
after_same p q x xs s (inl g) = inl ((g.0, s), ap₂ (λ b n. one b + n) (sym g.0) g.1)
after_same p q x xs s (inr l) = inr l

after_more : {X : Type 0} (p q : X → Bool) (x : X) (xs : List X) → suc (count p xs) ≤ count q xs
    → ((q x ≡ p x) × (count p xs ≡ count q xs)) ⊎ (suc (one (p x) + count p xs) ≤ one (q x) + count q xs) → Grown p q (x ∷ xs)
after_more p q x xs l (inl g) = let e = g.1 in absurd (omega (arith, l, e))
after_more p q x xs l (inr m) = inr m

grown_first : {X : Type 0} (p q : X → Bool) → ((x : X) → p x ≡ true → q x ≡ true) → (x : X) (xs : List X) → Grown p q xs → Grown p q (x ∷ xs)
grown_first p q h x xs (inl s) = after_same p q x xs s.0 (grow (p x) (q x) (h x) (count p xs) (count q xs) (inl s.1))
grown_first p q h x xs (inr l) = after_more p q x xs l (grow (p x) (q x) (h x) (count p xs) (count q xs) (inr l))

grown : {X : Type 0} (p q : X → Bool) → ((x : X) → p x ≡ true → q x ≡ true) → (xs : List X) → Grown p q xs
grown p q h [] = inl (tt, refl)
grown p q h (x ∷ xs) = grown_first p q h x xs (grown p q h xs)

-- tests of which each passes what the one before passes, and which stay the same once one is the same as the one before
pub record Grows {X : Type 0} (p : ℕ → X → Bool) (xs : List X) : Type 0 where
  pub rises : (n : ℕ) (x : X) → p n x ≡ true → p (suc n) x ≡ true
  pub stays : (n : ℕ) → AllSame (p (suc n)) (p n) xs → AllSame (p (suc (suc n))) (p (suc n)) xs

abbrev SettledOrMany : {X : Type 0} → (ℕ → X → Bool) → List X → ℕ → Type 0
SettledOrMany p xs n = AllSame (p (suc n)) (p n) xs ⊎ (suc n ≤ count (p (suc n)) xs)

at_first : {X : Type 0} (p : ℕ → X → Bool) (xs : List X) → Grown (p 0) (p 1) xs → SettledOrMany p xs 0
at_first p xs (inl s) = inl s.0
at_first p xs (inr l) = inr (omega (arith, l))

one_more : {X : Type 0} (p : ℕ → X → Bool) (xs : List X) (n : ℕ) → suc n ≤ count (p (suc n)) xs
    → Grown (p (suc n)) (p (suc (suc n))) xs → SettledOrMany p xs (suc n)
one_more p xs n l (inl s) = inl s.0
one_more p xs n l (inr m) = inr (omega (arith, l, m))

next : {X : Type 0} (p : ℕ → X → Bool) (xs : List X) (g : Grows p xs) (n : ℕ) → SettledOrMany p xs n → SettledOrMany p xs (suc n)
next p xs g n (inl s) = inl (g.stays n s)
next p xs g n (inr l) = one_more p xs n l (grown (p (suc n)) (p (suc (suc n))) (g.rises (suc n)) xs)

settled_or_many : {X : Type 0} (p : ℕ → X → Bool) (xs : List X) (g : Grows p xs) (n : ℕ) → SettledOrMany p xs n
settled_or_many p xs g zero = at_first p xs (grown (p 0) (p 1) (g.rises 0) xs)
settled_or_many p xs g (suc n) = next p xs g n (settled_or_many p xs g n)

not_many : {X : Type 0} (p : ℕ → X → Bool) (xs : List X) (n : ℕ) → n ≡ length xs → SettledOrMany p xs n → AllSame (p (suc n)) (p n) xs
not_many p xs n e (inl s) = s
not_many p xs n e (inr l) = let b = bounded (p (suc n)) xs in absurd (omega (arith, e, l, b))

pub settled : {X : Type 0} (p : ℕ → X → Bool) (xs : List X) → Grows p xs → AllSame (p (suc (length xs))) (p (length xs)) xs
settled p xs g = not_many p xs (length xs) refl (settled_or_many p xs g (length xs))
