-- On a graph without cycles whose arguments are there, a node is as low as the graph is long, so
-- that many visits suffice.
use Rattle.std.proofs.Common.{◌≡◌, ℕ, zero, suc, ◌+◌, ◌<◌, ◌≤◌, ◌⊎◌, inl, inr, Bool, true, false, ◌&&◌, List, [], ◌∷◌, IsTrue, refl, length, nat_lt, arith, ltb-true, zero-add, suc-add}
use Rattle.std.specs.List.{list_all}
use Rattle.cu_machine.specs.Graph.{Graph, node_at}
use Rattle.cu_machine.specs.Validity.{AllFounded, ArgumentsThere, Founded, are_places, founded, more, none}
use Rattle.std.proofs.lemmas.Bool.{cases_lt}

-- ---- tests

pub both_true : (a b : Bool) → a ≡ true → b ≡ true → (a && b) ≡ true
both_true a b p q = rw (p, q) refl

pub left_true : (a b : Bool) → (a && b) ≡ true → a ≡ true
left_true true b p = refl
left_true false b p = p

pub right_true : (a b : Bool) → (a && b) ≡ true → b ≡ true
right_true true b p = p
right_true false b p = let no : ⊥ = cc in absurd no

-- what passes a test for each element passes another that follows
pub all_follow : {A : Type 0} (p q : A → Bool) (xs : List A) → ((x : A) → p x ≡ true → q x ≡ true) → list_all p xs ≡ true → list_all q xs ≡ true
all_follow p q [] follows all = refl
all_follow p q (x ∷ xs) follows all =
    both_true (q x) (list_all q xs) (follows x (left_true (p x) (list_all p xs) all))
    (all_follow p q xs follows (right_true (p x) (list_all p xs) all))

-- what passes a test for each element passes another that follows for elements that pass a third
pub all_follow_within : {A : Type 0} (r p q : A → Bool) (xs : List A) → ((x : A) → r x ≡ true → p x ≡ true → q x ≡ true)
    → list_all r xs ≡ true → list_all p xs ≡ true → list_all q xs ≡ true
all_follow_within r p q [] follows within all = refl
all_follow_within r p q (x ∷ xs) follows within all =
    both_true (q x) (list_all q xs)
    (follows x (left_true (r x) (list_all r xs) within) (left_true (p x) (list_all p xs) all))
    (all_follow_within r p q xs follows (right_true (r x) (list_all r xs) within) (right_true (p x) (list_all p xs) all))

pub at_or_below : (i n : ℕ) → i < suc n → (i ≡ n) ⊎ (i < n)
at_or_below i n below = elim (cases_lt i n) [ inl less ↦ inr less | inr same ↦ inl (omega arith) ]

-- ---- how many numbers pass a test

abbrev pub one_if : Bool → ℕ
one_if true = 1
one_if false = 0

unfoldable pub passing : (ℕ → Bool) → ℕ → ℕ
passing p zero = 0
passing p (suc n) = one_if (p n) + passing p n

pub at_most_one : (b : Bool) → one_if b ≤ 1
at_most_one true = omega arith
at_most_one false = omega arith

pub true_if_one : (b : Bool) → 1 ≤ one_if b → b ≡ true
true_if_one true one = refl
true_if_one false one = let no : ⊥ = omega arith in absurd no

pub more_if : (a b : Bool) → (a ≡ true → b ≡ true) → one_if a ≤ one_if b
more_if true b follows = rw (follows refl) (omega arith)
more_if false b follows = omega arith

pub same_if : (a b : Bool) → one_if b ≤ one_if a → b ≡ true → a ≡ true
same_if true b fewer here = refl
same_if false true fewer here = let no : ⊥ = omega arith in absurd no
same_if false false fewer here = here

pub at_most_all : (p : ℕ → Bool) (n : ℕ) → passing p n ≤ n
unfolding passing
at_most_all p zero = omega arith
at_most_all p (suc n) = let rest = at_most_all p n in let here = at_most_one (p n) in omega arith

-- where as many pass as there are, each does
pub full_passes : (p : ℕ → Bool) (n : ℕ) → n ≤ passing p n → (i : ℕ) → i < n → p i ≡ true
unfolding passing
full_passes p zero full i below = let no : ⊥ = omega arith in absurd no
full_passes p (suc n) full i below =
    let rest = at_most_all p n in
    let here = at_most_one (p n) in
    elim (at_or_below i n below) [
      | inl same ↦ rw same (true_if_one (p n) (omega arith))
      | inr less ↦ full_passes p n (omega arith) i less
    ]

-- a test that follows from another passes at least as often
pub passes_more : (p q : ℕ → Bool) (n : ℕ) → ((i : ℕ) → i < n → p i ≡ true → q i ≡ true) → passing p n ≤ passing q n
unfolding passing
passes_more p q zero follows = omega arith
passes_more p q (suc n) follows =
    let rest = passes_more p q n (λ i below. follows i (omega arith)) in
    let here = more_if (p n) (q n) (follows n (omega arith)) in
    omega arith

-- and where it doesn't pass more often, it passes at the same numbers
pub passes_same : (p q : ℕ → Bool) (n : ℕ) → ((i : ℕ) → i < n → p i ≡ true → q i ≡ true) → passing q n ≤ passing p n
    → (i : ℕ) → i < n → q i ≡ true → p i ≡ true
unfolding passing
passes_same p q zero follows fewer i below here = let no : ⊥ = omega arith in absurd no
passes_same p q (suc n) follows fewer i below here =
    let rest = passes_more p q n (λ j less. follows j (omega arith)) in
    let last = more_if (p n) (q n) (follows n (omega arith)) in
    elim (at_or_below i n below) [
      | inl same ↦ rw same (same_if (p n) (q n) (omega arith) (rw same at here))
      | inr less ↦ passes_same p q n (λ j less_j. follows j (omega arith)) (omega arith) i less here
    ]

-- ---- low nodes

-- every path from a node ends within so many nodes
unfoldable pub is_low : ℕ → Graph → ℕ → Bool
is_low zero graph id = false
is_low (suc n) graph id = list_all (is_low n graph) (node_at graph id).args

pub lower : (n : ℕ) (graph : Graph) (id : ℕ) → is_low n graph id ≡ true → is_low (suc n) graph id ≡ true
unfolding is_low
lower zero graph id low = let no : ⊥ = cc in absurd no
lower (suc n) graph id low = all_follow (is_low n graph) (is_low (suc n) graph) (node_at graph id).args (λ x. lower n graph x) low

pub lower_by : (k n : ℕ) (graph : Graph) (id : ℕ) → is_low n graph id ≡ true → is_low (k + n) graph id ≡ true
lower_by zero n graph id low = rw zero-add low
lower_by (suc k) n graph id low = rw suc-add (lower (k + n) graph id (lower_by k n graph id low))

-- nothing new is as low as this: whatever is one lower is as low
abbrev IsSteady : Graph → ℕ → Type 0
IsSteady graph n = (id : ℕ) → id < length graph → is_low (suc n) graph id ≡ true → is_low n graph id ≡ true

pub steady_later : (graph : Graph) (n : ℕ) → ArgumentsThere graph → IsSteady graph n → IsSteady graph (suc n)
unfolding is_low
steady_later graph n there steady id below low =
    all_follow_within (λ x. nat_lt x (length graph)) (is_low (suc n) graph) (is_low n graph) (node_at graph id).args
    (λ x here. steady x (ltb-true x (length graph) here)) (there id below) low

-- each number is steady, or so many nodes are as low
pub steady_or_many : (graph : Graph) (n : ℕ) → ArgumentsThere graph → IsSteady graph n ⊎ (n ≤ passing (is_low n graph) (length graph))
steady_or_many graph zero there = inr (omega arith)
steady_or_many graph (suc n) there = elim (steady_or_many graph n there) [
  | inl steady ↦ inl (steady_later graph n there steady)
  | inr many ↦ elim (cases_lt (passing (is_low n graph) (length graph)) (passing (is_low (suc n) graph) (length graph))) [
    | inl less ↦ inr (omega arith)
    | inr fewer ↦
        inl (steady_later graph n there (λ id below low.
        passes_same (is_low n graph) (is_low (suc n) graph) (length graph) (λ i here. lower n graph i) fewer id below low))
  ]
]

mutual
  unfolding is_low

  pub founded_low : (graph : Graph) (n id : ℕ) → ArgumentsThere graph → IsSteady graph n → Founded graph id → id < length graph → is_low n graph id ≡ true
  founded_low graph n id there steady (founded node all) below = steady id below (all_founded_low graph n (node_at graph id).args there steady all (there id below))

  pub all_founded_low : (graph : Graph) (n : ℕ) (ids : List ℕ) → ArgumentsThere graph → IsSteady graph n → AllFounded graph ids
      → IsTrue (are_places (length graph) ids) → list_all (is_low n graph) ids ≡ true
  all_founded_low graph n [] there steady none below = refl
  all_founded_low graph n (id ∷ ids) there steady (more first rest one others) below =
      both_true (is_low n graph id) (list_all (is_low n graph) ids)
      (founded_low graph n id there steady one (ltb-true id (length graph) (left_true (nat_lt id (length graph)) (are_places (length graph) ids) below)))
      (all_founded_low graph n ids there steady others (right_true (nat_lt id (length graph)) (are_places (length graph) ids) below))

-- a node is as low as the graph is long
pub low_enough : (graph : Graph) (id : ℕ) → ArgumentsThere graph → Founded graph id → id < length graph → is_low (length graph) graph id ≡ true
low_enough graph id there found below = elim (steady_or_many graph (length graph) there) [
  | inl steady ↦ founded_low graph (length graph) id there steady found below
  | inr many ↦ full_passes (is_low (length graph) graph) (length graph) many id below
]
