-- What a worker's draws and outcomes are.
use Rattle.std.proofs.Common.{◌≡◌, ℕ, zero, suc, ◌+◌, ◌-◌, ◌<◌, ◌≤◌, Bool, true, false, cond, List, [], ◌∷◌, ◌++◌, map, length, sym, refl, ap, ◌∙◌, subst, arith, Option, Some, Result, Ok, Err, Vec, lt-ltb, le-ltb}
use Rattle.std.proofs.lemmas.Bool.Decides.{nat_tests}
use Rattle.std.proofs.lemmas.List.Elements.{All-nil, All-cons, All-push, All-append}
use Rattle.std.specs.Prelude.{nat_lt, slice_get, All, IfOk}
use mathlib.Core.List.{map-append}
use Rattle.cu_pile.specs.declared.seat.SeatView.{SeatView}
use Rattle.cu_pile.specs.Seats.{number_past, IsFresh, seated}
use Rattle.atomic_table.specs.Table.{Me}
use Rattle.cu_pile.specs.Outcomes.{IsOutcome, numbers_below, RunsOut}
use Rattle.cu_pile.specs.Inside.Steps.{EndsPast, AreBoth, AreOutcomes, slot_of, IsDone, IsRun}
use Rattle.cu_pile.proofs.Counts.{past-append}

pub past_more : (count : ℕ) (below : List ℕ) (n : ℕ) → number_past count below ≡ 0 → n < count → number_past count (below ++ n ∷ []) ≡ 0
past_more count below n none_past low = let a = past-append count below (n ∷ []) in let b : number_past count (n ∷ []) ≡ 0 = grind (arith, nat_tests) in omega arith

pub draw_asks : {I : Type 0} (items : List I) (v u : SeatView I) (below : List ℕ) (n : ℕ) → u ≡ v → v.items ≡ items → v.drawn ≡ below ++ n ∷ [] → number_past (length items) below ≡ 0 → n < length items
    → number_past (length u.items) u.drawn ≡ 0
draw_asks {I} items v u below n same known drawn none_past low =
    subst (λ (w : SeatView I). number_past (length w.items) w.drawn ≡ 0) (sym same)
    (subst (λ (z : List I × List ℕ). number_past (length z.0) z.1 ≡ 0) (λ i. (sym known i, sym drawn i)) (past_more (length items) below n none_past low))

pub all_below : (count : ℕ) (xs : List ℕ) → number_past count xs ≡ 0 → All (λ n. n < count) xs
all_below count [] h = All-nil (λ n. n < count)
all_below count (x ∷ xs) h = let low : x < count = grind (arith, nat_tests) in All-cons (λ n. n < count) x xs low (all_below count xs (omega arith))

pub only_below : (count : ℕ) (below : List ℕ) (n : ℕ) → number_past count below ≡ 0 → count ≤ n → numbers_below count (below ++ n ∷ []) ≡ below
only_below count [] n h far = ap (λ (b : Bool). cond b (n ∷ []) []) (le-ltb n count far)
only_below count (x ∷ xs) n h far =
    let low : x < count = grind (arith, nat_tests) in let r : List ℕ = numbers_below count (xs ++ n ∷ []) in
    ap (λ (b : Bool). cond b (x ∷ r) r) (lt-ltb x count low) ∙ ap (λ (l : List ℕ). x ∷ l) (only_below count xs n (omega arith) far)

below-append : (count : ℕ) (xs ys : List ℕ) → numbers_below count (xs ++ ys) ≡ numbers_below count xs ++ numbers_below count ys
below-append count [] ys = refl
below-append count (x ∷ xs) ys = one_more (nat_lt x count) (below-append count xs ys)
  where
    one_more : (b : Bool) → numbers_below count (xs ++ ys) ≡ numbers_below count xs ++ numbers_below count ys
        → cond b (x ∷ numbers_below count (xs ++ ys)) (numbers_below count (xs ++ ys)) ≡ cond b (x ∷ numbers_below count xs) (numbers_below count xs) ++ numbers_below count ys
    one_more true h = ap (λ (l : List ℕ). x ∷ l) h
    one_more false h = h

-- Of numbers below the count and then one past it, those below are kept.
pub told_below : (P : ℕ → Type 0) (count : ℕ) (below : List ℕ) (n : ℕ) (drawn : List ℕ) → drawn ≡ below ++ n ∷ [] → number_past count below ≡ 0 → count ≤ n → All P below
    → All P (numbers_below count drawn)
told_below P count below n drawn is h far all = subst (All P) (sym (ap (numbers_below count) is ∙ only_below count below n h far)) all

-- What holds of each number of two seats below the count holds of each when they are joined.
pub told_by_both : (P : ℕ → Type 0) (count : ℕ) (xs ys drawn : List ℕ) → drawn ≡ xs ++ ys → All P (numbers_below count xs) → All P (numbers_below count ys) → All P (numbers_below count drawn)
told_by_both P count xs ys drawn is one two =
    subst (All P) (sym (ap (numbers_below count) is ∙ below-append count xs ys)) (All-append P (numbers_below count xs) (numbers_below count ys) one two)

pub nearer : (count m n : ℕ) → m < n → m < count → count - n < count - m
nearer count m n a b = omega arith

pub slot_past : {I : Type 0} (items : List I) (n : ℕ) → length items ≤ n → slot_of n (slice_get items n) ≡ []
slot_past [] n far = refl
slot_past (x ∷ xs) zero far = absurd (omega arith)
slot_past {I} (x ∷ xs) (suc n) far = nothing_there xs n (omega arith)
  where
    nothing_there : (ys : List I) (k : ℕ) → length ys ≤ k → slot_of (suc n) (slice_get ys k) ≡ []
    nothing_there [] k far = refl
    nothing_there (y ∷ ys) zero far = absurd (omega arith)
    nothing_there (y ∷ ys) (suc k) far = nothing_there ys k (omega arith)

ends_past : (count : ℕ) (drawn : List ℕ) → RunsOut count drawn → EndsPast count drawn
ends_past count drawn out = (out.1, (out.0, out.2), out.4)

module _ {I O E A : Type 0} (promises : I → O → Type 0) (items : List I) where
  pub outcome_more : (number : ℕ) (numbers : List ℕ) (before : Result (Vec (ℕ × O) A) E) (pairs : Vec (ℕ × O) A) (after : List (ℕ × O)) (item : I) (outcome : O) → before ≡ Ok pairs
      → after ≡ pairs.items ++ (number, outcome) ∷ [] → slice_get items number ≡ Some item → promises item outcome → AreOutcomes promises items numbers before
      → (map (λ pair. pair.0) after ≡ numbers ++ number ∷ []) × All (IsOutcome promises items) after
  outcome_more number numbers before pairs after item outcome was is at promised kept =
      let R : Type 0 = Result (Vec (ℕ × O) A) E in let some_pairs : R = Ok pairs in
      let old : AreOutcomes promises items numbers some_pairs = subst (λ (r : R). AreOutcomes promises items numbers r) was kept in (
        ap (map (λ (pair : ℕ × O). pair.0)) is ∙ (map-append (λ (pair : ℕ × O). pair.0) pairs.items ((number, outcome) ∷ []) ∙ ap (λ (l : List ℕ). l ++ number ∷ []) old.0),
        subst (λ (l : List (ℕ × O)). All (IsOutcome promises items) l) (sym is) (All-push (IsOutcome promises items) pairs.items (number, outcome) old.1 (item, at, promised)),
      )

  pub in_order : (numbers drawn : List ℕ) (r : Result (Vec (ℕ × O) A) E) → numbers_below (length items) drawn ≡ numbers → AreOutcomes promises items numbers r
      → IfOk r (λ pairs. map (λ pair. pair.0) pairs.items ≡ numbers_below (length items) drawn)
  in_order numbers drawn (Ok pairs) e kept = kept.0 ∙ sym e
  in_order numbers drawn (Err x) e kept = tt

  pub all_outcomes : (numbers : List ℕ) (r : Result (Vec (ℕ × O) A) E) → AreOutcomes promises items numbers r → IfOk r (λ pairs. All (IsOutcome promises items) pairs.items)
  all_outcomes numbers (Ok pairs) kept = kept.1
  all_outcomes numbers (Err x) kept = tt

  both_facts : (numbers : List ℕ) (r : Result (Vec (ℕ × O) A) E) → IfOk r (λ pairs. map (λ pair. pair.0) pairs.items ≡ numbers) → IfOk r (λ pairs. All (IsOutcome promises items) pairs.items)
      → AreOutcomes promises items numbers r
  both_facts numbers (Ok pairs) order outcomes = (order, outcomes)
  both_facts numbers (Err x) order outcomes = tt

  -- what one worker leaves
  pub worker_runs : (kept_items : List I) (workers : ℕ) (before after : Me (Option I) (SeatView I)) (r : Result (Vec (ℕ × O) A) E) → kept_items ≡ items → IsFresh items before → before.0.items ≡ kept_items → before.0.workers ≡ workers
      → after.0 ≡ record before.0 { drawn = after.0.drawn } → after.1 ≡ [] → RunsOut (length kept_items) after.0.drawn
      → IfOk r (λ pairs. map (λ pair. pair.0) pairs.items ≡ numbers_below (length kept_items) after.0.drawn) → IfOk r (λ pairs. All (IsOutcome promises kept_items) pairs.items) → IsRun promises items workers after r
  worker_runs kept_items workers before after r same fresh known stands kept slots out order outcomes =
      let d : List ℕ = after.0.drawn in let w : SeatView I = record before.0 { drawn = d } in
      let e₂ : w ≡ seated items d before.0.workers = ap (λ (m : Me (Option I) (SeatView I)). record m.0 { drawn = d }) fresh in
      let e₃ : seated items d before.0.workers ≡ seated items d after.0.workers = ap (seated items d) (sym (ap (λ (v : SeatView I). v.workers) kept)) in
      let view : after.0 ≡ seated items d after.0.workers = kept ∙ (e₂ ∙ e₃) in (
        ((λ i. (view i, slots i)), subst (λ (l : List I). EndsPast (length l) d) same (ends_past (length kept_items) d out)),
        ap (λ (v : SeatView I). v.workers) kept ∙ stands,
        both_facts (numbers_below (length items) d) r (subst (λ (l : List I). IfOk r (λ pairs. map (λ pair. pair.0) pairs.items ≡ numbers_below (length l) d)) same order)
            (subst (λ (l : List I). IfOk r (λ pairs. All (IsOutcome promises l) pairs.items)) same outcomes),
      )

  both_outcomes : (xs ys : List ℕ) (first second both : Result (Vec (ℕ × O) A) E) → AreBoth first second both → AreOutcomes promises items xs first → AreOutcomes promises items ys second
      → AreOutcomes promises items (xs ++ ys) both
  both_outcomes xs ys (Ok a) (Ok b) (Ok c) is one two = (
    ap (map (λ (pair : ℕ × O). pair.0)) is ∙ (map-append (λ (pair : ℕ × O). pair.0) a.items b.items ∙ λ i. one.0 i ++ two.0 i),
    subst (λ (l : List (ℕ × O)). All (IsOutcome promises items) l) (sym is) (All-append (IsOutcome promises items) a.items b.items one.1 two.1),
  )
  both_outcomes xs ys (Ok a) (Err e) (Ok c) is one two = absurd is
  both_outcomes xs ys (Err e) second (Ok c) is one two = absurd is
  both_outcomes xs ys first second (Err e) is one two = tt

  -- what two seats leave, joined
  pub runs_joined : (most half workers : ℕ) (m₁ m₂ m : Me (Option I) (SeatView I)) (r₁ r₂ r : Result (Vec (ℕ × O) A) E) → IsRun promises items most m₁ r₁ → IsRun promises items half m₂ r₂ → IsDone items m
      → m.0.drawn ≡ m₁.0.drawn ++ m₂.0.drawn → m.0.workers ≡ m₁.0.workers + m₂.0.workers → most + half ≡ workers → AreBoth r₁ r₂ r → IsRun promises items workers m r
  runs_joined most half workers m₁ m₂ m r₁ r₂ r one two done drawn stands sum both =
      let a = one.1 in let b = two.1 in (
        done,
        omega arith,
        subst (λ (ns : List ℕ). AreOutcomes promises items ns r) (sym (ap (numbers_below (length items)) drawn ∙ below-append (length items) m₁.0.drawn m₂.0.drawn))
            (both_outcomes (numbers_below (length items) m₁.0.drawn) (numbers_below (length items) m₂.0.drawn) r₁ r₂ r both one.2 two.2),
      )
