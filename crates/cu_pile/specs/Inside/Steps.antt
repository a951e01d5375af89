-- What one step of a seat tells it, and which slots are out with it.
use Rattle.std.specs.Prelude.{◌≡◌, ℕ, ◌<◌, ◌≤◌, if◌then◌else◌, nat_lt, List, [], ◌∷◌, ◌++◌, length, map, slice_get, All, IfOk, MatchResult, Option, Some, None, Result, Vec, IsPermutation}
use Rattle.std.specs.List.Sorted.{IsNonDecreasingBy}
use Rattle.atomic_table.specs.Table.{Me, Step}
use Rattle.cu_pile.specs.declared.seat.SeatView.{SeatView}
use Rattle.cu_pile.specs.Seats.{EndsWith, seated}
use Rattle.cu_pile.specs.Outcomes.{IsOutcome, numbers_below}

-- The last number of the list is not below the count.
abbrev pub EndsPast : ℕ → List ℕ → Type 0
EndsPast count drawn = (past : ℕ) × EndsWith drawn past × (count ≤ past)

-- the number drawn last, where the round has an item of that number
abbrev pub last_below : ℕ → List ℕ → List ℕ
last_below count [] = []
last_below count (n ∷ []) = if nat_lt n count then n ∷ [] else []
last_below count (n ∷ m ∷ ms) = last_below count (m ∷ ms)

module _ {I : Type 0} where
  -- the view of a seat with one number more
  abbrev pub with_number : SeatView I → ℕ → SeatView I
  with_number v n = record v { drawn = v.drawn ++ n ∷ [] }

  -- the slot of a number, with its item, where there is one
  abbrev pub slot_of : ℕ → Option I → List (ℕ × Option I)
  slot_of n None = []
  slot_of n (Some item) = (n, Some item) ∷ []

  -- The step is a draw: the number joins the seat's list and is greater than the one before it, and
  -- the slot of the number, if there is one, is out with the seat.
  abbrev pub Draws : Step (Option I) → Me (Option I) (SeatView I) → ℕ → Me (Option I) (SeatView I)
      → Type 0
  Draws step before n after =
      (after.0 ≡ with_number before.0 n) × (after.1 ≡ slot_of n (slice_get before.0.items n))
      × ((m : ℕ) → EndsWith before.0.drawn m → m < n)

  -- The slot of the number drawn last is out with the seat, where there is one, and no other slot.
  abbrev pub HoldsLast : ℕ → List ℕ → List (ℕ × Option I) → Type 0
  HoldsLast count drawn held = map (λ slot. slot.0) held ≡ last_below count drawn

  -- A seat of a round of these items has drawn until a number was past them, and holds no slot.
  abbrev pub IsDone : List I → Me (Option I) (SeatView I) → Type 0
  IsDone items me =
      (me ≡ (seated items me.0.drawn me.0.workers, [])) × EndsPast (length items) me.0.drawn

-- Where there are outcomes, these are of these numbers, in this order.
abbrev pub AreOutcomes : {I O E A : Type 0} → (I → O → Type 0) → List I → List ℕ
    → Result (Vec (ℕ × O) A) E → Type 0
AreOutcomes promises items numbers outcomes =
    IfOk outcomes (λ pairs.
    (map (λ pair. pair.0) pairs.items ≡ numbers) × All (IsOutcome promises items) pairs.items)

-- What the workers of a seat leave: the seat ran out, stands for as many workers as before, and the
-- outcomes are those of its numbers.
abbrev pub IsRun : {I O E A : Type 0} → (I → O → Type 0) → List I → ℕ → Me (Option I) (SeatView I)
    → Result (Vec (ℕ × O) A) E → Type 0
IsRun promises items workers me outcomes =
    IsDone items me × (me.0.workers ≡ workers)
    × AreOutcomes promises items (numbers_below (length items) me.0.drawn) outcomes

-- The outcomes are those of the pairs, in the order of their numbers.
abbrev pub AreInOrder : {O : Type 0} → List (ℕ × O) → List O → Type 0
AreInOrder {O} pairs outcomes =
    (sorted : List (ℕ × O)) × IsPermutation pairs sorted × IsNonDecreasingBy (λ pair. pair.0) sorted
    × (outcomes ≡ map (λ pair. pair.1) sorted)

-- Where there are outcomes in all, each side has outcomes, and all are those of the first side and
-- then those of the second.
abbrev pub AreBoth : {T E A : Type 0} → Result (Vec T A) E → Result (Vec T A) E
    → Result (Vec T A) E → Type 0
AreBoth first second both =
    IfOk both (λ all. MatchResult first
    (λ xs. MatchResult second (λ ys. all.items ≡ xs.items ++ ys.items) (λ _. ⊥)) (λ _. ⊥))
