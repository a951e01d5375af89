-- What seats at a round's table know, and sums over all of them.
use Rattle.std.specs.Prelude.{◌≡◌, ℕ, ◌+◌, ◌==◌, if◌then◌else◌, nat_lt, false, true, List, [], ◌∷◌, ◌++◌, Option}
use mathlib.Core.Option.{some}
use lib.ListN.{get_elem?}
use Rattle.atomic_table.specs.Table.{Me}
use Rattle.cu_pile.specs.declared.seat.SeatView.{SeatView}
use Rattle.atomic_table.specs.declared.shared.Seat.{Seat}
use Rattle.cu_pile.specs.declared.seat.Start.{Start}

-- the view of a seat in a round of these items, which drew these numbers and stands for so many
-- workers
abbrev pub seated : {I : Type 0} → List I → List ℕ → ℕ → SeatView I
seated items drawn workers =
    record { items = items; drawn = drawn; workers = workers; spent = false }

-- the view of a seat that was joined to another one
abbrev pub spent_seat : {I : Type 0} → SeatView I
spent_seat = record { items = []; drawn = []; workers = 0; spent = true }

-- how often a number stands in a list
abbrev pub times : ℕ → List ℕ → ℕ
times n [] = 0
times n (m ∷ ms) = (if m == n then 1 else 0) + times n ms

-- how often a number stands among those below the word: once or never
abbrev pub once_below : ℕ → ℕ → ℕ
once_below n word = if nat_lt n word then 1 else 0

-- how many numbers of a list are not below a count
abbrev pub number_past : ℕ → List ℕ → ℕ
number_past count [] = 0
number_past count (m ∷ ms) = (if nat_lt m count then 0 else 1) + number_past count ms

-- The list ends with this number.
abbrev pub EndsWith : List ℕ → ℕ → Type 0
EndsWith drawn n = (prefix : List ℕ) × (drawn ≡ prefix ++ n ∷ [])

module _ {I : Type 0} where
  -- the sum of f over all seats that are not spent
  abbrev pub total : (SeatView I → ℕ) → List (SeatView I) → ℕ
  total f [] = 0
  total f (v ∷ views) = (if v.spent then 0 else f v) + total f views

  -- The fact holds of the view of each seat that is not spent.
  abbrev pub EachSeat : (SeatView I → Type 0) → List (SeatView I) → Type 0
  EachSeat P views =
      (seat : ℕ) (v : SeatView I) → get_elem? views seat ≡ some v → v.spent ≡ false → P v

  -- the items of the round for which a table is made
  abbrev pub items_of : Start I → List I
  items_of start = start.items.value.items

  -- A seat of a round of these items has drawn nothing yet and holds no slot.
  abbrev pub IsFresh : List I → Me (Option I) (SeatView I) → Type 0
  IsFresh items me = me ≡ (seated items [] me.0.workers, [])

  -- what a seat knows: its view
  abbrev pub view_of : Seat (Option I) (SeatView I) → SeatView I
  view_of seat = seat.me.0
