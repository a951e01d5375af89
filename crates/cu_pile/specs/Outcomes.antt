-- What a worker and a round answer.
use Rattle.std.specs.Prelude.{◌≡◌, ℕ, ◌<◌, ◌≤◌, nat_lt, List, [], ◌∷◌, ◌++◌, All, filter, slice_get, Some}

-- the numbers of a list that are below a count
abbrev pub numbers_below : ℕ → List ℕ → List ℕ
numbers_below count drawn = filter (λ n. nat_lt n count) drawn

-- The fact holds of each number below the count.
abbrev pub EachBelow : ℕ → (ℕ → Type 0) → Type 0
EachBelow count P = (n : ℕ) → n < count → P n

-- The numbers are some below the count, and then one that is not.
abbrev pub RunsOut : ℕ → List ℕ → Type 0
RunsOut count drawn =
    (below : List ℕ) × (past : ℕ) × (drawn ≡ below ++ past ∷ []) × All (λ n. n < count) below
    × (count ≤ past)

module _ {I O : Type 0} (promises : I → O → Type 0) where
  -- The round has an item of the pair's number, and the pair's outcome is one that is promised of
  -- that item.
  abbrev pub IsOutcome : List I → ℕ × O → Type 0
  IsOutcome items pair = (item : I) × (slice_get items pair.0 ≡ Some item) × promises item pair.1

  -- There are as many outcomes as items, and each is one that is promised of the item in its place.
  abbrev pub Pairwise : List I → List O → Type 0
  Pairwise [] [] = Unit {0}
  Pairwise (item ∷ items) (outcome ∷ outcomes) = promises item outcome × Pairwise items outcomes
  Pairwise _ _ = ⊥
