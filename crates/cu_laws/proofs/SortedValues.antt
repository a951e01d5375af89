-- Sorted lists rise and have no other elements than those that they were made of.
use Rattle.std.proofs.Common.{◌≡◌, ℕ, zero, suc, ◌<◌, ◌⊎◌, inl, inr, Bool, true, List, [], ◌∷◌, Some, refl, ap, ◌∙◌, subst, slice_get, arith}
use Rattle.std.specs.Prelude.{flat_map}
use Rattle.std.specs.Ordering.{is_lt, ordering_reverse}
use Rattle.std.specs.declared.cmp.Ordering.{Ordering}
use Rattle.std.specs.declared.cmp.Ordering.TheVariants.{Equal, Greater, Less}
use Rattle.std.proofs.lemmas.Bool.{and_from, and_parts}
use Rattle.cu_calculus.specs.Order.{rises, value_order}
use Rattle.cu_calculus.specs.Value.{Value}
use Rattle.cu_calculus.proofs.ValueOrder.{order_swapped}
use Rattle.cu_machine.specs.Among.{Among}
use Rattle.cu_machine.specs.Found.{answered_by, answers_before}
use Rattle.cu_machine.specs.Next.{Answer, Next, Reading}
use Rattle.cu_machine.specs.Sort.{inserted, inserted_by, sorted}
use Rattle.cu_machine.proofs.Depth.{among_append}
use Rattle.cu_machine.proofs.Levels.{among_flat}

-- ---- rising lists

-- a value is less than the first of a list
abbrev before_first : Value → List Value → Bool
before_first w [] = true
before_first w (v ∷ vs) = is_lt (value_order w v)

rises_with : (w : Value) (vs : List Value) → before_first w vs ≡ true → rises vs ≡ true → rises (w ∷ vs) ≡ true
rises_with w [] first rest = refl
rises_with w (v ∷ vs) first rest = and_from (is_lt (value_order w v)) (rises (v ∷ vs)) first rest

rises_parts : (w : Value) (vs : List Value) → rises (w ∷ vs) ≡ true → (before_first w vs ≡ true) × (rises vs ≡ true)
rises_parts w [] all = (refl, refl)
rises_parts w (v ∷ vs) all = and_parts (is_lt (value_order w v)) (rises (v ∷ vs)) all

first_inserted : (w v : Value) (vs : List Value) → value_order w v ≡ Less → before_first w vs ≡ true → before_first w (inserted v vs) ≡ true
first_inserted w v [] less first = ap is_lt less
first_inserted w v (x ∷ rest) less first = by (value_order v x)
  where
    by : (order : Ordering) → before_first w (inserted_by order v x rest (inserted v rest)) ≡ true
    by Less = ap is_lt less
    by Equal = first
    by Greater = first

inserted_rises : (v : Value) (vs : List Value) → rises vs ≡ true → rises (inserted v vs) ≡ true
inserted_rises v [] all = refl
inserted_rises v (w ∷ rest) all =
    let parts = rises_parts w rest all in
    by (value_order v w) refl parts.0 (inserted_rises v rest parts.1)
  where
    by : (order : Ordering) → value_order v w ≡ order → before_first w rest ≡ true → rises (inserted v rest) ≡ true
        → rises (inserted_by order v w rest (inserted v rest)) ≡ true
    by Less is first after = and_from (is_lt (value_order v w)) (rises (w ∷ rest)) (ap is_lt is) all
    by Equal is first after = all
    by Greater is first after =
        let less : value_order w v ≡ Less = order_swapped w v ∙ ap ordering_reverse is in
        rises_with w (inserted v rest) (first_inserted w v rest less first) after

pub sorted_rises : (vs : List Value) → rises (sorted vs) ≡ true
sorted_rises [] = refl
sorted_rises (v ∷ vs) = inserted_rises v (sorted vs) (sorted_rises vs)

-- ---- elements

inserted_from : (x v : Value) (vs : List Value) → Among x (inserted v vs) → (v ≡ x) ⊎ Among x vs
inserted_from x v [] m = elim m [ inl same ↦ inl same | inr nowhere ↦ absurd nowhere ]
inserted_from x v (w ∷ rest) m = by (value_order v w) (λ after. inserted_from x v rest after) m
  where
    by : (order : Ordering) → (Among x (inserted v rest) → (v ≡ x) ⊎ Among x rest) → Among x (inserted_by order v w rest (inserted v rest))
        → (v ≡ x) ⊎ Among x (w ∷ rest)
    by Less others (inl same) = inl same
    by Less others (inr after) = inr after
    by Equal others there = inr there
    by Greater others (inl same) = inr (inl same)
    by Greater others (inr after) = elim (others after) [ inl same ↦ inl same | inr further ↦ inr (inr further) ]

pub sorted_from : (x : Value) (vs : List Value) → Among x (sorted vs) → Among x vs
sorted_from x [] m = m
sorted_from x (v ∷ vs) m = elim (inserted_from x v (sorted vs) m) [ inl same ↦ inl same | inr after ↦ inr (sorted_from x vs after) ]

-- ---- places

pub place_among : {A : Type 0} (x : A) (xs : List A) → Among x xs → (k : ℕ) × (slice_get xs k ≡ Some x)
place_among x [] m = absurd m
place_among x (y ∷ ys) (inl same) = (0, ap Some same)
place_among x (y ∷ ys) (inr after) = let found = place_among x ys after in (suc found.0, found.1)

pub among_place : {A : Type 0} (x : A) (xs : List A) (k : ℕ) → slice_get xs k ≡ Some x → Among x xs
among_place x [] k at = let no : ⊥ = cc in absurd no
among_place x (y ∷ ys) zero at = let same : y ≡ x = cc in inl same
among_place x (y ∷ ys) (suc k) at = inr (among_place x ys k at)

-- ---- what was answered

-- an answer among the events of a level
pub record AnsweredAt (events : ℕ → List Next) (depth : ℕ) (v : Value) : Type 0 where
  pub level : ℕ
  pub before : level < depth
  pub reading : Reading
  pub among : Among (Answer reading) (events level)
  pub value_is : reading.value ≡ v

answered_from : (v : Value) (event : Next) → Among v (answered_by event) → (reading : Reading) × (event ≡ Answer reading) × (reading.value ≡ v)
answered_from v (Answer reading) (inl same) = (reading, refl, same)
answered_from v (Answer reading) (inr nowhere) = absurd nowhere
answered_from v _ m = absurd m

pub answers_from : (events : ℕ → List Next) (depth : ℕ) (v : Value) → Among v (answers_before events depth) → AnsweredAt events depth v
answers_from events zero v m = absurd m
answers_from events (suc depth) v m = elim (among_append v (answers_before events depth) (flat_map answered_by (events depth)) m) [
  | inl earlier ↦
      let found = answers_from events depth v earlier in
      let below = found.before in
      record { level = found.level; before = omega arith; reading = found.reading; among = found.among; value_is = found.value_is }
  | inr here ↦
      let event = among_flat answered_by v (events depth) here in
      let found = answered_from v event.0 event.2 in
      record {
        level = depth;
        before = omega arith;
        reading = found.0;
        among = subst (λ (e : Next). Among e (events depth)) found.1 event.1;
        value_is = found.2;
      }
]
