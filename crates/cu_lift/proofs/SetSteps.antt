-- Sets of captured variables, one variable at a time.
use Rattle.std.proofs.Common.{◌≡◌, ◌≢◌, ℕ, ◌+◌, ◌<◌, ◌⊎◌, inl, inr, IsTrue, Bool, true, false, nat_lt, List, [], ◌∷◌, ◌++◌, length, set, slice_get, Some, refl, ap, sym, ◌∙◌, subst, arith}
use Rattle.std.proofs.Math.ListN.{length-set}
use Rattle.std.proofs.lemmas.Bool.{and_from, and_parts}
use Rattle.std.specs.List.{list_all}
use Rattle.cu_calculus.proofs.Lists.{all_append}
use Rattle.cu_kernel.specs.Captures.{are_rising}
use Rattle.cu_lift.proofs.Elements.{first_or_rest, prefix_or_new, in_first, in_prefix, in_last, in_rest, none_in}
use Rattle.cu_lift.proofs.Leaders.{less_true}
use Rattle.cu_cycles.proofs.Places.{before_or_not, one_element, same_or_not, set_cases, set_elsewhere, there, within}
use Rattle.cu_lift.proofs.RowSteps.{in_row}
use Rattle.cu_lift.specs.Groups.{IsIn}
use Rattle.cu_lift.specs.Inside.Capturing as capturing
use Rattle.cu_lift.specs.Inside.Capturing.{AllOwned, AreMet, Meets, Pushes, SetsTo}
use Rattle.cu_lift.specs.Inside.Ordering.{IsAt, Row}
use Rattle.cu_lift.specs.declared.captures.Local.{Local}

-- ---- a number is pushed to the rows that are marked

pub pushes_none : (met : List Bool) (x : ℕ) (rows : List Row) → Pushes met x 0 rows rows
pushes_none met x rows = record {
  sized = refl;
  marked = λ k row less e d. absurd (omega arith);
  unmarked = λ k row less e d. absurd (omega arith);
  others = λ k more. refl;
}

both_ways : (met : List Bool) (k n : ℕ) → k ≡ n → slice_get met k ≡ Some true → slice_get met n ≡ Some false → ⊥
both_ways met k n same e d =
    let absent : true ≡ false = one_element met n true false (subst (λ (j : ℕ). slice_get met j ≡ Some true) same e) d in cc

module _ (met : List Bool) (x n : ℕ) (first old : List Row) (pushes : Pushes met x n first old) where
  pub pushes_one : (row more : Row) → slice_get met n ≡ Some true → slice_get old n ≡ Some row → more.items ≡ row.items ++ x ∷ []
      → Pushes met x (n + 1) first (set old n more)
  pushes_one row more is_marked is_row pushed = record {
    sized = length-set old n more ∙ pushes.sized;
    marked = λ k its less e d. marked k its less e (set_cases old n k more its d);
    unmarked = λ k its less e d. unmarked k its less e (set_cases old n k more its d);
    others = λ k more_than.
        let other : k ≢ n = λ same. omega arith in
        set_elsewhere old n k more other ∙ pushes.others k (omega arith);
  }
    where
      marked : (k : ℕ) (its : Row) → k < n + 1 → slice_get met k ≡ Some true → ((k ≡ n) × (more ≡ its)) ⊎ ((k ≢ n) × (slice_get old k ≡ Some its))
          → (before : Row) × (slice_get first k ≡ Some before) × (its.items ≡ before.items ++ x ∷ [])
      marked k its less e (inl h) =
          (row, ap (slice_get first) h.0 ∙ sym (pushes.others n (omega arith)) ∙ is_row, ap (λ (r : Row). r.items) (sym h.1) ∙ pushed)
      marked k its less e (inr h) =
          let low : k < n = elim (before_or_not k n) [ inl p ↦ p | inr p ↦ absurd (h.0 (omega arith)) ] in pushes.marked k its low e h.1

      unmarked : (k : ℕ) (its : Row) → k < n + 1 → slice_get met k ≡ Some false → ((k ≡ n) × (more ≡ its)) ⊎ ((k ≢ n) × (slice_get old k ≡ Some its))
          → (before : Row) × (slice_get first k ≡ Some before) × (its.items ≡ before.items)
      unmarked k its less e (inl h) = absurd (both_ways met n k (sym h.0) is_marked e)
      unmarked k its less e (inr h) =
          let low : k < n = elim (before_or_not k n) [ inl p ↦ p | inr p ↦ absurd (h.0 (omega arith)) ] in pushes.unmarked k its low e h.1

  pub pushes_skip : slice_get met n ≡ Some false → Pushes met x (n + 1) first old
  pushes_skip is_unmarked = record {
    sized = pushes.sized;
    marked = λ k its less e d. elim (same_or_not k n) [
      | inl same ↦ absurd (both_ways met k n same e is_unmarked)
      | inr other ↦ let low : k < n = elim (before_or_not k n) [ inl p ↦ p | inr p ↦ absurd (other (omega arith)) ] in pushes.marked k its low e d
    ];
    unmarked = λ k its less e d. elim (before_or_not k n) [
      | inl low ↦ pushes.unmarked k its low e d
      | inr high ↦ (its, sym (pushes.others k high) ∙ d, refl)
    ];
    others = λ k more_than. pushes.others k (omega arith);
  }

-- ---- rising lists

pub rising_push : (xs : List ℕ) (x : ℕ) → IsTrue (are_rising xs) → ((y : ℕ) → IsIn xs y → y < x) → IsTrue (are_rising (xs ++ x ∷ []))
rising_push [] x h below = refl
rising_push (y ∷ xs) x h below =
    let parts = and_parts (list_all (nat_lt y) xs) (are_rising xs) h in
    let last : IsTrue (list_all (nat_lt y) (x ∷ [])) = and_from (nat_lt y x) true (less_true y x (below y (in_first y xs))) refl in
    and_from (list_all (nat_lt y) (xs ++ x ∷ [])) (are_rising (xs ++ x ∷ [])) (all_append (nat_lt y) xs (x ∷ []) parts.0 last)
    (rising_push xs x parts.1 (λ z at. below z (in_rest z y xs at)))

-- ---- the sets

all_in : (locals : List Local) (variables : List ℕ) (x k : ℕ) → AllOwned locals variables → Meets locals x k → IsIn variables x
all_in locals variables x _ owned (capturing.own k l e owns) = owned k x l e owns
all_in locals variables x _ owned (capturing.through k h l e calls free meets) = all_in locals variables x h owned meets

pub sets_none : (locals : List Local) (variables : List ℕ) (sets : List Row) → length sets ≡ length locals
    → ((k : ℕ) (row : Row) → slice_get sets k ≡ Some row → row.items ≡ []) → AllOwned locals variables → SetsTo locals variables sets
sets_none locals variables sets sized empty owned = record {
  sized = sized;
  rising = λ k row e. subst (λ (xs : List ℕ). IsTrue (are_rising xs)) (sym (empty k row e)) refl;
  below = λ k x y at h. absurd (none_in x (subst (λ (xs : List ℕ). IsIn xs x) (empty k at.0 at.1) at.2));
  sound = λ k x at. absurd (none_in x (subst (λ (xs : List ℕ). IsIn xs x) (empty k at.0 at.1) at.2));
  all = λ k x meets. inr (all_in locals variables x k owned meets);
}

module _ (locals : List Local) (keys rest : List ℕ) (x : ℕ) (met : List Bool) (old new : List Row) (sets : SetsTo locals keys old) (popped : keys ≡ x ∷ rest)
    (above : (y : ℕ) → IsIn rest y → x < y) (are : AreMet locals x met) (pushes : Pushes met x (length met) old new) where
  key : IsIn keys x
  key = subst (λ (xs : List ℕ). IsIn xs x) (sym popped) (in_first x rest)

  still : (y : ℕ) → IsIn rest y → IsIn keys y
  still y h = subst (λ (xs : List ℕ). IsIn xs y) (sym popped) (in_rest y x rest h)

  was_by : (k : ℕ) (row : Row) (b : Bool) → slice_get new k ≡ Some row → slice_get met k ≡ Some b
      → (before : Row) × (slice_get old k ≡ Some before)
      × (((row.items ≡ before.items ++ x ∷ []) × (slice_get met k ≡ Some true)) ⊎ ((row.items ≡ before.items) × (slice_get met k ≡ Some false)))
  was_by k row true e d =
      let its = pushes.marked k row (within met k true d) d e in (its.0, its.1, inl (its.2, d))
  was_by k row false e d =
      let its = pushes.unmarked k row (within met k false d) d e in (its.0, its.1, inr (its.2, d))

  -- what a row was
  was : (k : ℕ) (row : Row) → slice_get new k ≡ Some row
      → (before : Row) × (slice_get old k ≡ Some before)
      × (((row.items ≡ before.items ++ x ∷ []) × (slice_get met k ≡ Some true)) ⊎ ((row.items ≡ before.items) × (slice_get met k ≡ Some false)))
  was k row e =
      let low = within new k row e in
      let a = pushes.sized in
      let b = sets.sized in
      let d = are.sized in
      let at = there met k (omega arith) in
      was_by k row at.0 e at.1

  rising_by : (k : ℕ) (row before : Row) → slice_get old k ≡ Some before
      → ((row.items ≡ before.items ++ x ∷ []) × (slice_get met k ≡ Some true)) ⊎ ((row.items ≡ before.items) × (slice_get met k ≡ Some false))
      → IsTrue (are_rising row.items)
  rising_by k row before e (inl h) =
      subst (λ (xs : List ℕ). IsTrue (are_rising xs)) (sym h.0)
      (rising_push before.items x (sets.rising k before e) (λ y at. sets.below k y x (before, e, at) key))
  rising_by k row before e (inr h) = subst (λ (xs : List ℕ). IsTrue (are_rising xs)) (sym h.0) (sets.rising k before e)

  -- an element of a row was there, or is the one that is pushed
  in_by : (k z : ℕ) (row before : Row) → slice_get old k ≡ Some before
      → ((row.items ≡ before.items ++ x ∷ []) × (slice_get met k ≡ Some true)) ⊎ ((row.items ≡ before.items) × (slice_get met k ≡ Some false))
      → IsIn row.items z → IsAt old k z ⊎ ((x ≡ z) × (slice_get met k ≡ Some true))
  in_by k z row before e (inl h) at =
      elim (prefix_or_new z x before.items (subst (λ (xs : List ℕ). IsIn xs z) h.0 at)) [ inl p ↦ inl (before, e, p) | inr p ↦ inr (p, h.1) ]
  in_by k z row before e (inr h) at = inl (before, e, subst (λ (xs : List ℕ). IsIn xs z) h.0 at)

  in_was : (k z : ℕ) → IsAt new k z → IsAt old k z ⊎ ((x ≡ z) × (slice_get met k ≡ Some true))
  in_was k z at = let its = was k at.0 at.1 in in_by k z at.0 its.0 its.1 its.2 at.2

  keeps_by : (k z : ℕ) (row before : Row)
      → ((row.items ≡ before.items ++ x ∷ []) × (slice_get met k ≡ Some true)) ⊎ ((row.items ≡ before.items) × (slice_get met k ≡ Some false))
      → IsIn before.items z → IsIn row.items z
  keeps_by k z row before (inl h) at = subst (λ (xs : List ℕ). IsIn xs z) (sym h.0) (in_prefix z before.items (x ∷ []) at)
  keeps_by k z row before (inr h) at = subst (λ (xs : List ℕ). IsIn xs z) (sym h.0) at

  keeps : (k z : ℕ) → IsAt old k z → IsAt new k z
  keeps k z at =
      let low = within old k at.0 at.1 in
      let a = pushes.sized in
      let row = there new k (omega arith) in
      let its = was k row.0 row.1 in
      (row.0, row.1, keeps_by k z row.0 its.0 its.2 (in_row old k z its.0 its.1 at))

  last_by : (k : ℕ) (row before : Row) → slice_get met k ≡ Some true
      → ((row.items ≡ before.items ++ x ∷ []) × (slice_get met k ≡ Some true)) ⊎ ((row.items ≡ before.items) × (slice_get met k ≡ Some false))
      → IsIn row.items x
  last_by k row before e (inl h) = subst (λ (xs : List ℕ). IsIn xs x) (sym h.0) (in_last x before.items)
  last_by k row before e (inr h) = absurd (both_ways met k k refl e h.1)

  now_there : (k : ℕ) → slice_get met k ≡ Some true → IsAt new k x
  now_there k e =
      let low = within met k true e in
      let a = pushes.sized in
      let b = sets.sized in
      let d = are.sized in
      let row = there new k (omega arith) in
      let its = was k row.0 row.1 in
      (row.0, row.1, last_by k row.0 its.0 e its.2)

  pub sets_next : SetsTo locals rest new
  sets_next = record {
    sized = pushes.sized ∙ sets.sized;
    rising = λ k row e. let its = was k row e in rising_by k row its.0 its.1 its.2;
    below = λ k z y at h. elim (in_was k z at) [
      | inl p ↦ sets.below k z y p (still y h)
      | inr p ↦ subst (λ (n : ℕ). n < y) p.0 (above y h)
    ];
    sound = λ k z at. elim (in_was k z at) [
      | inl p ↦ sets.sound k z p
      | inr p ↦ subst (λ (n : ℕ). Meets locals n k) p.0 ((are.exact k).0 p.1)
    ];
    all = λ k z meets. elim (sets.all k z meets) [
      | inl p ↦ inl (keeps k z p)
      | inr p ↦ elim (first_or_rest z x rest (subst (λ (xs : List ℕ). IsIn xs z) popped p)) [
        | inl same ↦
            inl (subst (λ (n : ℕ). IsAt new k n) same (now_there k ((are.exact k).1 (subst (λ (n : ℕ). Meets locals n k) (sym same) meets))))
        | inr later ↦ inr later
      ]
    ];
  }
