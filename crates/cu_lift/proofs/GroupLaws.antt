-- A program has one list of dependency groups.
use Rattle.std.proofs.Common.{◌≡◌, ◌≢◌, ℕ, zero, suc, ◌+◌, ◌<◌, ◌≤◌, ◌⊎◌, inl, inr, IsTrue, nat_lt, List, [], ◌∷◌, ◌++◌, length, map, take, slice_get, Option, None, Some, refl, ap, sym, ◌∙◌, subst, arith}
use Rattle.std.proofs.lemmas.Bool.{and_parts}
use Rattle.std.specs.List.{list_all}
use Rattle.cu_calculus.proofs.Lists.{get_map, passed_at}
use Rattle.cu_calculus.specs.Program.{Program}
use Rattle.cu_calculus.specs.declared.FunId.{FunId}
use Rattle.cu_kernel.specs.Captures.{are_rising}
use Rattle.cu_lift.proofs.Bridges.{function_at}
use Rattle.cu_lift.proofs.Elements.{first_or_rest, in_first, in_rest, none_in}
use Rattle.cu_lift.proofs.Leaders.{less_from}
use Rattle.cu_cycles.proofs.Places.{before_or_not, mapped_at, same_or_not, take_keeps, take_less, there, within}
use Rattle.cu_lift.specs.Groups.{AreGroups, IsGroup, IsIn, IsReady, first_of, numbers}

-- ---- lists in order with the same elements

above_first : (x : ℕ) (xs : List ℕ) → IsTrue (are_rising (x ∷ xs)) → (y : ℕ) → IsIn xs y → x < y
above_first x xs h y (k, e) = less_from x y (passed_at (nat_lt x) xs k y (and_parts (list_all (nat_lt x) xs) (are_rising xs) h).0 e)

rest_rises : (x : ℕ) (xs : List ℕ) → IsTrue (are_rising (x ∷ xs)) → IsTrue (are_rising xs)
rest_rises x xs h = (and_parts (list_all (nat_lt x) xs) (are_rising xs) h).1

in_rest_too : (x : ℕ) (xs ys : List ℕ) → IsTrue (are_rising (x ∷ xs)) → ((z : ℕ) → IsIn (x ∷ xs) z → IsIn (x ∷ ys) z) → (z : ℕ) → IsIn xs z → IsIn ys z
in_rest_too x xs ys h all z at = elim (first_or_rest z x ys (all z (in_rest z x xs at))) [
  | inl same ↦ let more : x < z = above_first x xs h z at in absurd (omega arith)
  | inr rest ↦ rest
]

first_same : (x y : ℕ) (xs ys : List ℕ) → IsTrue (are_rising (x ∷ xs)) → IsTrue (are_rising (y ∷ ys)) → IsIn (y ∷ ys) x → IsIn (x ∷ xs) y → x ≡ y
first_same x y xs ys h k p q = elim (first_or_rest x y ys p) [
  | inl same ↦ sym same
  | inr rest ↦
      let less : y < x = above_first y ys k x rest in
      elim (first_or_rest y x xs q) [ inl same ↦ same | inr more ↦ let over : x < y = above_first x xs h y more in absurd (omega arith) ]
]

pub rising_same : (xs ys : List ℕ) → IsTrue (are_rising xs) → IsTrue (are_rising ys) → ((z : ℕ) → IsIn xs z → IsIn ys z) → ((z : ℕ) → IsIn ys z → IsIn xs z)
    → xs ≡ ys
rising_same [] [] h k p q = refl
rising_same [] (y ∷ ys) h k p q = absurd (none_in y (q y (in_first y ys)))
rising_same (x ∷ xs) [] h k p q = absurd (none_in x (p x (in_first x xs)))
rising_same (x ∷ xs) (y ∷ ys) h k p q =
    let same : x ≡ y = first_same x y xs ys h k (p x (in_first x xs)) (q y (in_first y ys)) in
    let prefix : (z : ℕ) → IsIn (x ∷ xs) z → IsIn (x ∷ ys) z = λ z at. subst (λ (w : ℕ). IsIn (w ∷ ys) z) (sym same) (p z at) in
    let converse : (z : ℕ) → IsIn (y ∷ ys) z → IsIn (y ∷ xs) z = λ z at. subst (λ (w : ℕ). IsIn (w ∷ xs) z) same (q z at) in
    ap (λ w. w ∷ xs) same
    ∙ ap (λ zs. y ∷ zs) (rising_same xs ys (rest_rises x xs h) (rest_rises y ys k) (in_rest_too x xs ys h prefix) (in_rest_too y ys xs k converse))

functions_of : (fs : List FunId) → map function_at (numbers fs) ≡ fs
functions_of [] = refl
functions_of (f ∷ fs) = ap (λ gs. f ∷ gs) (functions_of fs)

numbered : (fs gs : List FunId) → ((f : FunId) → IsIn fs f → IsIn gs f) → (n : ℕ) → IsIn (numbers fs) n → IsIn (numbers gs) n
numbered fs gs all n (k, e) =
    let f = mapped_at (λ (f : FunId). f.0) fs k n e in
    let at = all f.0 (k, f.1) in
    (at.0, get_map (λ (f : FunId). f.0) gs at.0 f.0 at.1 ∙ ap Some f.2)

-- two groups with a function in common
pub same_group : (program : Program) (first second : List FunId) → IsGroup program first → IsGroup program second → (f : FunId) → IsIn first f → IsIn second f
    → first ≡ second
same_group program first second one two f p q =
    sym (functions_of first)
    ∙ ap (map function_at) (rising_same (numbers first) (numbers second) one.rising two.rising
    (numbered first second (λ g h. (two.exact f g q).1 ((one.exact f g p).0 h))) (numbered second first (λ g h. (one.exact f g p).1 ((two.exact f g q).0 h))))
    ∙ functions_of second

-- ---- the order

take_more : {A : Type 0} (xs : List A) (n : ℕ) (x : A) → slice_get xs n ≡ Some x → take (suc n) xs ≡ take n xs ++ x ∷ []
take_more [] n x e = let none : ⊥ = cc in absurd none
take_more (y ∷ []) zero x e = let same : y ≡ x = cc in ap (λ z. z ∷ []) same
take_more (y ∷ z ∷ xs) zero x e = let same : y ≡ x = cc in ap (λ w. w ∷ []) same
take_more (y ∷ xs) (suc n) x e = ap (λ zs. y ∷ zs) (take_more xs n x e)

take_end : {A : Type 0} (xs : List A) (n : ℕ) → slice_get xs n ≡ None → take (suc n) xs ≡ take n xs
take_end [] zero e = refl
take_end [] (suc n) e = refl
take_end (y ∷ xs) zero e = let none : ⊥ = cc in absurd none
take_end (y ∷ xs) (suc n) e = ap (λ zs. y ∷ zs) (take_end xs n e)

take_all : {A : Type 0} (xs : List A) (n : ℕ) → length xs ≤ n → take n xs ≡ xs
take_all [] zero h = refl
take_all [] (suc n) h = refl
take_all (x ∷ xs) zero h = absurd (omega arith)
take_all (x ∷ xs) (suc n) h = ap (λ ys. x ∷ ys) (take_all xs n (omega arith))

module _ (program : Program) (first second : List (List FunId)) (one : AreGroups program first) (two : AreGroups program second) where
  -- a group of the first list stands in the second
  found : (k : ℕ) (group : List FunId) → slice_get first k ≡ Some group → (j : ℕ) × (slice_get second j ≡ Some group)
  found k group e =
      let its = one.each k group e in
      let f = its.some.0 in
      let placed = two.every f ((its.exact f f its.some.1).0 its.some.1).0 in
      let same = same_group program placed.0 group (two.each placed.1.0 placed.0 placed.1.1) its f placed.2 its.some.1 in
      (placed.1.0, placed.1.1 ∙ ap Some same)

  -- and there not before its place, where both begin alike
  pub not_before : (k : ℕ) (group : List FunId) (j : ℕ) → take k first ≡ take k second → slice_get first k ≡ Some group → slice_get second j ≡ Some group → k ≤ j
  not_before k group j alike e d = elim (before_or_not j k) [
    | inl less ↦
        let at = subst (λ (xs : List (List FunId)). slice_get xs j ≡ Some group) (sym alike) (take_keeps second k j group less d) in
        let same : j ≡ k = one.once j k group (take_less first k j group at).1 e in
        absurd (omega arith)
    | inr more ↦ more
  ]

pub next_same : (program : Program) (first second : List (List FunId)) → AreGroups program first → AreGroups program second → (k : ℕ) (group : List FunId)
    → take k first ≡ take k second → slice_get first k ≡ Some group → slice_get second k ≡ Some group
next_same program first second one two k group alike e = by (same_or_not at.0 k)
  where
    at : (j : ℕ) × (slice_get second j ≡ Some group)
    at = found program first second one two k group e

    late : k ≤ at.0
    late = not_before program first second one two k group at.0 alike e at.1

    against : (other : List FunId) (i : ℕ) → slice_get second k ≡ Some other → slice_get first i ≡ Some other → k < at.0 → k < i → ⊥
    against other i d there_too less more =
        let p : first_of group < first_of other =
        one.next k i group other e there_too more
        (subst (λ (xs : List (List FunId)). IsReady program xs other) (sym alike) (two.ready k other d)) in
        let q : first_of other < first_of group =
        two.next k at.0 other group d at.1 less (subst (λ (xs : List (List FunId)). IsReady program xs group) alike (one.ready k group e)) in
        omega arith

    converse : (other : List FunId) (i : ℕ) → slice_get second k ≡ Some other → slice_get first i ≡ Some other → k < at.0 → (i ≡ k) ⊎ (i ≢ k) → slice_get second k ≡ Some group
    converse other i d there_too less (inl same) =
        d ∙ sym there_too ∙ ap (slice_get first) same ∙ e
    converse other i d there_too less (inr apart) =
        let late_too : k ≤ i = not_before program second first two one k other i (sym alike) d there_too in
        absurd (against other i d there_too less (omega arith))

    by : (at.0 ≡ k) ⊎ (at.0 ≢ k) → slice_get second k ≡ Some group
    by (inl same) = ap (slice_get second) (sym same) ∙ at.1
    by (inr apart) =
        let less : k < at.0 = let low = late in omega arith in
        let long = within second at.0 group at.1 in
        let other = there second k (omega arith) in
        let its = found program second first two one k other.0 other.1 in
        converse other.0 its.0 other.1 its.1 less (same_or_not its.0 k)

module _ (program : Program) (first second : List (List FunId)) (one : AreGroups program first) (two : AreGroups program second) where
  step : (n : ℕ) → take n first ≡ take n second → (x y : Option (List FunId)) → slice_get first n ≡ x → slice_get second n ≡ y
      → take (suc n) first ≡ take (suc n) second
  step n alike (Some group) y e d =
      take_more first n group e ∙ ap (λ xs. xs ++ group ∷ []) alike ∙ sym (take_more second n group (next_same program first second one two n group alike e))
  step n alike None (Some group) e d =
      let at : slice_get first n ≡ Some group = next_same program second first two one n group (sym alike) d in
      let none : ⊥ = cc in
      absurd none
  step n alike None None e d = take_end first n e ∙ alike ∙ sym (take_end second n d)

  alike : (n : ℕ) → take n first ≡ take n second
  alike zero = none first ∙ sym (none second)
    where
      none : (xs : List (List FunId)) → take 0 xs ≡ []
      none [] = refl
      none (x ∷ xs) = refl
  alike (suc n) = step n (alike n) (slice_get first n) (slice_get second n) refl refl

  pub one_list : first ≡ second
  one_list =
      let n = length first + length second in
      sym (take_all first n (omega arith)) ∙ alike n ∙ take_all second n (omega arith)
