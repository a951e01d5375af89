-- The first functions of components.
use Rattle.std.proofs.Common.{◌≡◌, ◌≢◌, ℕ, zero, suc, ◌+◌, ◌<◌, ◌≤◌, ◌⊎◌, inl, inr, IsTrue, true, nat_lt, List, [], ◌∷◌, map, slice_get, slice_index, Some, refl, ap, sym, ◌∙◌, subst, arith}
use Rattle.std.proofs.lemmas.Bool.{and_from, and_parts}
use Rattle.std.specs.List.{list_all}
use Rattle.cu_calculus.proofs.Lists.{get_map, passed_at}
use Rattle.cu_calculus.specs.declared.FunId.{FunId}
use Rattle.cu_kernel.specs.Captures.{are_rising}
use Rattle.cu_lift.proofs.Members.{here_is, here_not, of_rank_all, of_rank_in}
use Rattle.cu_cycles.proofs.Places.{mapped_at, one_element, same_or_not}
use Rattle.cu_lift.proofs.RowSteps.{index_is}
use Rattle.cu_lift.specs.Groups.{IsIn, first_of, numbers}
use Rattle.cu_cycles.specs.Components.{AreRanks}
use Rattle.cu_cycles.specs.Graph.{Graph}
use Rattle.cu_lift.specs.Inside.Levelling.{of_rank}
use Rattle.cu_lift.specs.Inside.Ordering.{Calls, Leads, group_of, leader_of}

pub less_true : (m n : ℕ) → m < n → nat_lt m n ≡ true
less_true m n h = search (arith, h)

pub less_from : (m n : ℕ) → nat_lt m n ≡ true → m < n
less_from m n h = search (arith, h)

above_all : (n : ℕ) (xs : List FunId) → ((k : ℕ) (v : FunId) → slice_get xs k ≡ Some v → n < v.0) → IsTrue (list_all (nat_lt n) (numbers xs))
above_all n [] h = refl
above_all n (x ∷ xs) h =
    and_from (nat_lt n x.0) (list_all (nat_lt n) (numbers xs)) (less_true n x.0 (h 0 x refl)) (above_all n xs (λ k v e. h (suc k) v e))

rising_by : (r f x : ℕ) (ranks : List ℕ) → IsTrue (are_rising (numbers (of_rank r (f + 1) ranks))) → (x ≡ r) ⊎ (x ≢ r)
    → IsTrue (are_rising (numbers (of_rank r f (x ∷ ranks))))
rising_by r f x ranks rest (inl same) =
    subst (λ (xs : List FunId). IsTrue (are_rising (numbers xs))) (sym (here_is r f x ranks same))
    (and_from (list_all (nat_lt f) (numbers (of_rank r (f + 1) ranks))) (are_rising (numbers (of_rank r (f + 1) ranks)))
    (above_all f (of_rank r (f + 1) ranks) (λ k v e.
    let found = of_rank_in r (f + 1) ranks k v e in let at : v.0 ≡ f + 1 + found.0 = found.1 in omega arith)) rest)
rising_by r f x ranks rest (inr other) =
    subst (λ (xs : List FunId). IsTrue (are_rising (numbers xs))) (sym (here_not r f x ranks other)) rest

pub of_rank_rising : (r f : ℕ) (ranks : List ℕ) → IsTrue (are_rising (numbers (of_rank r f ranks)))
of_rank_rising r f [] = refl
of_rank_rising r f (x ∷ ranks) = rising_by r f x ranks (of_rank_rising r (f + 1) ranks) (same_or_not x r)

pub first_there : (xs : List FunId) (k : ℕ) (v : FunId) → slice_get xs k ≡ Some v → (f : FunId) × (slice_get xs 0 ≡ Some f) × (first_of xs ≡ f.0)
first_there [] k v e = let none : ⊥ = cc in absurd none
first_there (x ∷ xs) k v e = (x, refl, refl)

pub first_least : (xs : List FunId) (k : ℕ) (v : FunId) → IsTrue (are_rising (numbers xs)) → slice_get xs k ≡ Some v → first_of xs ≤ v.0
first_least [] k v h e = let none : ⊥ = cc in absurd none
first_least (x ∷ xs) zero v h e =
    let is : x ≡ v = cc in let same : x.0 ≡ v.0 = ap (λ (f : FunId). f.0) is in omega arith
first_least (x ∷ xs) (suc k) v h e =
    let parts = and_parts (list_all (nat_lt x.0) (numbers xs)) (are_rising (numbers xs)) h in
    let less : x.0 < v.0 = less_from x.0 v.0
    (passed_at (nat_lt x.0) (numbers xs) k v.0 parts.0 (get_map (λ (f : FunId). f.0) xs k v e)) in
    omega arith

module _ (ranks leaders : List ℕ) (are : leaders ≡ map (leader_of ranks) ranks) where
  pub leader_at : (u r : ℕ) → slice_get ranks u ≡ Some r → slice_get leaders u ≡ Some (leader_of ranks r)
  leader_at u r e = subst (λ (xs : List ℕ). slice_get xs u ≡ Some (leader_of ranks r)) (sym are) (get_map (leader_of ranks) ranks u r e)

  pub rank_of : (u l : ℕ) → slice_get leaders u ≡ Some l → (r : ℕ) × (slice_get ranks u ≡ Some r) × (leader_of ranks r ≡ l)
  rank_of u l e = mapped_at (leader_of ranks) ranks u l (subst (λ (xs : List ℕ). slice_get xs u ≡ Some l) are e)

  -- a leader has the rank of its functions
  pub leader_rank : (r u : ℕ) → slice_get ranks u ≡ Some r → slice_get ranks (leader_of ranks r) ≡ Some r
  leader_rank r u e =
      let its = of_rank_all r 0 ranks u e in
      let first = first_there (of_rank r 0 ranks) its.0 (record { 0 = 0 + u }) its.1 in
      let found = of_rank_in r 0 ranks 0 first.0 first.1 in
      let at : first.0.0 ≡ 0 + found.0 = found.1 in
      let is : first_of (of_rank r 0 ranks) ≡ first.0.0 = first.2 in
      let same : found.0 ≡ first_of (of_rank r 0 ranks) = omega arith in
      subst (λ (n : ℕ). slice_get ranks n ≡ Some r) same found.2

  pub lead : (u l : ℕ) → slice_get leaders u ≡ Some l → Leads leaders l
  lead u l e =
      let r = rank_of u l e in
      subst (λ (n : ℕ). Leads leaders n) r.2 (leader_at (leader_of ranks r.0) r.0 (leader_rank r.0 u r.1))

  pub one_leader : (u v l k r : ℕ) → slice_get leaders u ≡ Some l → slice_get leaders v ≡ Some k → slice_get ranks u ≡ Some r → slice_get ranks v ≡ Some r → l ≡ k
  one_leader u v l k r e d p q =
      one_element leaders u l (leader_of ranks r) e (leader_at u r p) ∙ sym (one_element leaders v k (leader_of ranks r) d (leader_at v r q))

  -- ranks fall along calls
  pub calls_fall : (g : Graph) (count : ℕ) → AreRanks g ranks count → (l k : ℕ) → Calls g leaders l k → (r t : ℕ) → slice_get ranks l ≡ Some r → slice_get ranks k ≡ Some t → t < r
  calls_fall g count ranked l k c r t e d =
      let from = rank_of c.caller l c.of in
      let to = rank_of c.callee k c.to in
      let its = subst (λ (n : ℕ). slice_get ranks n ≡ Some from.0) from.2 (leader_rank from.0 c.caller from.1) in
      let theirs = subst (λ (n : ℕ). slice_get ranks n ≡ Some to.0) to.2 (leader_rank to.0 c.callee to.1) in
      let p : from.0 ≡ r = one_element ranks l from.0 r its e in
      let q : to.0 ≡ t = one_element ranks k to.0 t theirs d in
      let low : to.0 ≤ from.0 = ranked.falling c.caller c.callee from.0 to.0 c.edge from.1 to.1 in
      elim (same_or_not to.0 from.0) [
        | inl same ↦ absurd (c.other (sym to.2 ∙ ap (leader_of ranks) same ∙ from.2))
        | inr other ↦ omega arith
      ]

  -- the functions of a leader's group are those that it leads
  pub led_in : (l u r : ℕ) → slice_get leaders u ≡ Some l → slice_get ranks u ≡ Some r → group_of ranks l ≡ of_rank r 0 ranks
  led_in l u r e d =
      let its = rank_of u l e in
      let same : its.0 ≡ r = one_element ranks u its.0 r its.1 d in
      let at = subst (λ (n : ℕ). slice_get ranks n ≡ Some its.0) its.2 (leader_rank its.0 u its.1) in
      ap (λ (n : ℕ). of_rank n 0 ranks) (index_is ranks l its.0 at ∙ same)

  pub in_group : (l : ℕ) (f : FunId) → slice_get leaders f.0 ≡ Some l → IsIn (group_of ranks l) f
  in_group l f e =
      let its = rank_of f.0 l e in
      let found = of_rank_all its.0 0 ranks f.0 its.1 in
      let at : 0 + f.0 ≡ f.0 = omega arith in (
        found.0,
        subst (λ (xs : List FunId). slice_get xs found.0 ≡ Some f) (sym (led_in l f.0 its.0 e its.1))
            (found.1 ∙ ap (λ (n : ℕ). Some (record { 0 = n })) at),
      )

  pub group_led : (l : ℕ) (f : FunId) → Leads leaders l → IsIn (group_of ranks l) f → slice_get leaders f.0 ≡ Some l
  group_led l f leads (k, e) =
      let its = rank_of l l leads in
      let found = of_rank_in its.0 0 ranks k f (subst (λ (xs : List FunId). slice_get xs k ≡ Some f) (led_in l l its.0 leads its.1) e) in
      let at : f.0 ≡ 0 + found.0 = found.1 in
      let same : found.0 ≡ f.0 = omega arith in
      leader_at f.0 its.0 (subst (λ (n : ℕ). slice_get ranks n ≡ Some its.0) same found.2) ∙ ap Some its.2

  pub group_first : (l : ℕ) → Leads leaders l → first_of (group_of ranks l) ≡ l
  group_first l leads = let its = rank_of l l leads in ap first_of (led_in l l its.0 leads its.1) ∙ its.2

  pub group_rising : (l : ℕ) → IsTrue (are_rising (numbers (group_of ranks l)))
  group_rising l = of_rank_rising (slice_index ranks l) 0 ranks
