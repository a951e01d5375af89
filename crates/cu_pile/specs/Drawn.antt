-- The rule of a round's table. It holds between any two atomic steps, and says that the numbers
-- which workers draw from the claim word are each drawn by one of them, and that none is left out.
use Rattle.std.specs.Prelude.{◌≡◌, ℕ, ◌<◌, ◌≤◌, false, List, [], ◌∷◌, length, slice_get, slice_index, Option, Some}
use mathlib.Core.Option.{none, some}
use mathlib.Core.Option as maybe
use lib.ListN.{get_elem?}
use Rattle.atomic_table.specs.Table.{State}
use Rattle.cu_pile.specs.declared.seat.SeatView.{SeatView}
use Rattle.cu_pile.specs.Seats.{times, once_below, number_past, EndsWith, total, EachSeat}

-- What holds of a seat that is not spent, in a round of these items.
pub record IsSeat {I : Type 0} (items : List I) (v : SeatView I) : Type 0 where
  -- The seat knows the items.
  pub items_kept : v.items ≡ items
  -- The seat stands for a worker or more.
  pub stands_for : 0 < v.workers
  -- At most one number for each of the seat's workers is past the items.
  pub past : number_past (length items) v.drawn ≤ v.workers

-- The slots are some value where they are at home, and none where they are out with a seat. A value
-- is the slot's item, or nothing once the item was taken out.
pub record Drawn {I : Type 0} (items : List I) (views : List (SeatView I)) (word : ℕ)
    (slots : List (maybe.Option (Option I))) (workers : ℕ) : Type 0 where
  -- Each seat that is not spent knows the items, stands for workers, and drew at most one number
  -- past the items for each of them.
  pub seats : EachSeat (IsSeat items) views
  -- The lists of these seats hold together each number below the word once, and no other number.
  pub numbers : (n : ℕ) → total (λ v. times n v.drawn) views ≡ once_below n word
  -- These seats stand together for all workers.
  pub all_workers : total (λ v. v.workers) views ≡ workers
  -- There is a slot for each item.
  pub slot_each : length slots ≡ length items
  -- A slot whose number was not drawn is at home, with its item.
  pub full : (i : ℕ) (item : I) → word ≤ i → slice_get items i ≡ Some item
      → get_elem? slots i ≡ some (some (Some item))
  -- A slot that is out is out with the seat that drew its number last, and no other seat empties
  -- it.
  pub out : (i : ℕ) → get_elem? slots i ≡ some none
      → (seat : ℕ) × (v : SeatView I) × (get_elem? views seat ≡ some v) × (v.spent ≡ false)
      × EndsWith v.drawn i

-- The whole rule of a round's table, which has one word, the claim word.
abbrev pub IsClaimed : {I : Type 0} → List I → ℕ → State (Option I) (SeatView I) → Type 0
IsClaimed items workers state =
    (state.words ≡ slice_index state.words 0 ∷ [])
    × Drawn items state.views (slice_index state.words 0) state.homes workers
