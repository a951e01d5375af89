-- Sums over seats, and how often numbers stand in lists.
use Rattle.std.proofs.Common.{◌≡◌, ◌≢◌, ℕ, zero, suc, ◌+◌, ◌-◌, ◌<◌, ◌≤◌, Bool, true, false, cond, List, [], ◌∷◌, ◌++◌, set, sym, refl, ap, ◌∙◌, subst, ⊎_elim, arith}
use Rattle.std.proofs.lemmas.Bool.Decides.{nat_tests}
use Rattle.std.specs.Prelude.{◌==◌}
use mathlib.Core.Option.{some, some-injective, some-ne-none}
use lib.ListN.{get_elem?}
use Rattle.atomic_table.proofs.Lists.{at_set, at_snoc}
use Rattle.cu_pile.specs.declared.seat.SeatView.{SeatView}
use Rattle.cu_pile.specs.Seats.{times, once_below, number_past, EndsWith, total, EachSeat}

pub times-append : (n : ℕ) (xs ys : List ℕ) → times n (xs ++ ys) ≡ times n xs + times n ys
times-append n [] ys = omega arith
times-append n (x ∷ xs) ys = let h = times-append n xs ys in omega arith

pub past-append : (count : ℕ) (xs ys : List ℕ) → number_past count (xs ++ ys) ≡ number_past count xs + number_past count ys
past-append count [] ys = omega arith
past-append count (x ∷ xs) ys = let h = past-append count xs ys in omega arith

pub times-itself : (n : ℕ) → 0 < times n (n ∷ [])
times-itself n = grind (arith, nat_tests)

pub ends_times : (xs : List ℕ) (n : ℕ) → EndsWith xs n → 0 < times n xs
ends_times xs n e = subst (λ ys. 0 < times n ys) (sym e.1) (let h = times-append n e.0 (n ∷ []) in let k = times-itself n in omega arith)

pub once_more : (n word : ℕ) → once_below n word + times n (word ∷ []) ≡ once_below n (word + 1)
once_more n word = grind (arith, nat_tests)

pub once_pos : (n word : ℕ) → 0 < once_below n word → n < word
once_pos n word h = grind (arith, nat_tests)

pub once_one : (n word : ℕ) → n < word → once_below n word ≡ 1
once_one n word h = grind (arith, nat_tests)

-- without the first place of a number
without : ℕ → List ℕ → List ℕ
without n [] = []
without n (m ∷ ms) = cond (m == n) ms (m ∷ without n ms)

times_first : (k n m : ℕ) (ms : List ℕ) (b : Bool) → (m == n) ≡ b → 0 < times n (m ∷ ms) → (0 < times n ms → times k ms ≡ times k (n ∷ []) + times k (without n ms))
    → times k (m ∷ ms) ≡ times k (n ∷ []) + times k (cond b ms (m ∷ without n ms))
times_first k n m ms true e h step = let same : m ≡ n = grind (arith, nat_tests) in subst (λ x. times k (x ∷ ms) ≡ times k (n ∷ []) + times k ms) (sym same) (omega arith)
times_first k n m ms false e h step = let h' : 0 < times n ms = grind (arith, nat_tests) in let r = step h' in omega arith

times_without : (k n : ℕ) (xs : List ℕ) → 0 < times n xs → times k xs ≡ times k (n ∷ []) + times k (without n xs)
unfolding without
times_without k n [] h = absurd (omega arith)
times_without k n (m ∷ ms) h = times_first k n m ms (m == n) refl h (times_without k n ms)

past_first : (c n m : ℕ) (ms : List ℕ) (b : Bool) → (m == n) ≡ b → 0 < times n (m ∷ ms) → (0 < times n ms → number_past c ms ≡ number_past c (n ∷ []) + number_past c (without n ms))
    → number_past c (m ∷ ms) ≡ number_past c (n ∷ []) + number_past c (cond b ms (m ∷ without n ms))
past_first c n m ms true e h step = let same : m ≡ n = grind (arith, nat_tests) in subst (λ x. number_past c (x ∷ ms) ≡ number_past c (n ∷ []) + number_past c ms) (sym same) (omega arith)
past_first c n m ms false e h step = let h' : 0 < times n ms = grind (arith, nat_tests) in let r = step h' in omega arith

past_without : (c n : ℕ) (xs : List ℕ) → 0 < times n xs → number_past c xs ≡ number_past c (n ∷ []) + number_past c (without n xs)
unfolding without
past_without c n [] h = absurd (omega arith)
past_without c n (m ∷ ms) h = past_first c n m ms (m == n) refl h (past_without c n ms)

past_step : (c word whole rest last : ℕ) → whole ≡ last + rest → word ≤ c + rest → 1 ≤ last + (c - word) → suc word ≤ c + whole
past_step c word whole rest last a b d = omega arith

-- each number below the word stands in the list: those past the count are as many as the word goes
-- beyond it
pub past_bound : (c word : ℕ) (xs : List ℕ) → ((n : ℕ) → times n xs ≡ once_below n word) → word ≤ c + number_past c xs
past_bound c zero xs all = omega arith
past_bound c (suc word) xs all =
    let here : 0 < times word xs = let h = all word in let k = once_one word (suc word) (omega arith) in omega arith in
    let less = past_bound c word (without word xs) (λ n. let a = all n in let b = times_without n word xs here in let o = once_more n word in let s : once_below n (word + 1) ≡ once_below n (suc word) = ap (once_below n) (omega arith) in omega arith) in
    let p = past_without c word xs here in let last : 1 ≤ number_past c (word ∷ []) + (c - word) = grind (arith, nat_tests) in
    past_step c word (number_past c xs) (number_past c (without word xs)) (number_past c (word ∷ [])) p less last

times_part : (n : ℕ) (b : Bool) (drawn : List ℕ) → times n (cond b [] drawn) ≡ cond b 0 (times n drawn)
times_part n true drawn = refl
times_part n false drawn = refl

past_part : (c : ℕ) (b : Bool) (drawn : List ℕ) → number_past c (cond b [] drawn) ≡ cond b 0 (number_past c drawn)
past_part c true drawn = refl
past_part c false drawn = refl

module _ {I : Type 0} where
  -- what a seat adds to a sum
  abbrev pub part : (SeatView I → ℕ) → SeatView I → ℕ
  part f v = cond v.spent 0 (f v)

  pub total_set : (f : SeatView I → ℕ) (views : List (SeatView I)) (k : ℕ) (v w : SeatView I) → get_elem? views k ≡ some v
      → total f (set views k w) + part f v ≡ total f views + part f w
  total_set f [] k v w e = absurd (some-ne-none v (sym e))
  total_set f (x ∷ xs) zero v w e = let h : part f x ≡ part f v = ap (part f) (some-injective x v e) in omega arith
  total_set f (x ∷ xs) (suc k) v w e = let h = total_set f xs k v w e in omega arith

  pub total_snoc : (f : SeatView I → ℕ) (views : List (SeatView I)) (w : SeatView I) → total f (views ++ w ∷ []) ≡ total f views + part f w
  total_snoc f [] w = omega arith
  total_snoc f (x ∷ xs) w = let h = total_snoc f xs w in omega arith

  pub part_le : (f : SeatView I → ℕ) (views : List (SeatView I)) (k : ℕ) (v : SeatView I) → get_elem? views k ≡ some v → part f v ≤ total f views
  part_le f [] k v e = absurd (some-ne-none v (sym e))
  part_le f (x ∷ xs) zero v e = let h : part f x ≡ part f v = ap (part f) (some-injective x v e) in omega arith
  part_le f (x ∷ xs) (suc k) v e = let h = part_le f xs k v e in omega arith

  pub part_unspent : (f : SeatView I → ℕ) (v : SeatView I) → v.spent ≡ false → part f v ≡ f v
  part_unspent f v e = ap (λ (b : Bool). cond b 0 (f v)) e

  pub each_set : (P : SeatView I → Type 0) (views : List (SeatView I)) (k : ℕ) (w : SeatView I) → (w.spent ≡ false → P w) → EachSeat P views → EachSeat P (set views k w)
  each_set P views k w mine all j u e live = ⊎_elim
      (λ (t : (j ≡ k) × (w ≡ u)). subst P t.1 (mine (ap (λ (x : SeatView I). x.spent) t.1 ∙ live)))
      (λ (t : (j ≢ k) × (get_elem? views j ≡ some u)). all j u t.1 live) (at_set views k j w u e)

  pub each_snoc : (P : SeatView I → Type 0) (views : List (SeatView I)) (w : SeatView I) → (w.spent ≡ false → P w) → EachSeat P views → EachSeat P (views ++ w ∷ [])
  each_snoc P views w mine all j u e live = ⊎_elim (λ (t : get_elem? views j ≡ some u). all j u t live)
      (λ (t : w ≡ u). subst P t (mine (ap (λ (x : SeatView I). x.spent) t ∙ live))) (at_snoc views w u j e)

  unless_spent : (f : SeatView I → ℕ) (x : SeatView I) (b : Bool) → x.spent ≡ b → (x.spent ≡ false → 0 < x.workers) → part (λ v. v.workers) x ≡ 0 → part f x ≡ 0
  unless_spent f x true e some_worker zero_it = ap (λ (c : Bool). cond c 0 (f x)) e
  unless_spent f x false e some_worker zero_it =
      let p = part_unspent (λ (v : SeatView I). v.workers) x e in let q = some_worker e in absurd (omega arith)

  -- where each seat stands for a worker or more, and all of them for none, all are spent
  pub no_seats : (f : SeatView I → ℕ) (views : List (SeatView I)) → EachSeat (λ v. 0 < v.workers) views → total (λ v. v.workers) views ≡ 0 → total f views ≡ 0
  no_seats f [] each zero_all = refl
  no_seats f (x ∷ xs) each zero_all =
      let h = no_seats f xs (λ j u at live. each (suc j) u at live) (omega arith) in
      let p = unless_spent f x x.spent refl (each 0 x refl) (omega arith) in omega arith

  -- one seat that stands for all workers has all that seats have
  pub only_seat : (f : SeatView I → ℕ) (views : List (SeatView I)) (k : ℕ) (v : SeatView I) → EachSeat (λ v. 0 < v.workers) views → get_elem? views k ≡ some v → v.spent ≡ false
      → total (λ v. v.workers) views ≡ v.workers → total f views ≡ f v
  only_seat f [] k v each at live all = absurd (some-ne-none v (sym at))
  only_seat f (x ∷ xs) zero v each at live all =
      let same = some-injective x v at in let h : part f x ≡ part f v = ap (part f) same in
      let w : part (λ u. u.workers) x ≡ part (λ u. u.workers) v = ap (part (λ u. u.workers)) same in
      let p = part_unspent f v live in let q = part_unspent (λ u. u.workers) v live in
      let rest = no_seats f xs (λ j u here l. each (suc j) u here l) (omega arith) in omega arith
  only_seat f (x ∷ xs) (suc k) v each at live all =
      let q = part_unspent (λ u. u.workers) v live in let le = part_le (λ u. u.workers) xs k v at in
      let h = only_seat f xs k v (λ j u here l. each (suc j) u here l) at live (omega arith) in
      let p = unless_spent f x x.spent refl (each 0 x refl) (omega arith) in omega arith

  -- the numbers of all seats that are not spent
  all_drawn : List (SeatView I) → List ℕ
  all_drawn [] = []
  all_drawn (v ∷ views) = cond v.spent [] v.drawn ++ all_drawn views

  times_all : (n : ℕ) (views : List (SeatView I)) → times n (all_drawn views) ≡ total (λ v. times n v.drawn) views
  unfolding all_drawn
  times_all n [] = refl
  times_all n (v ∷ views) = let a = times-append n (cond v.spent [] v.drawn) (all_drawn views) in let p = times_part n v.spent v.drawn in let h = times_all n views in omega arith

  past_all : (c : ℕ) (views : List (SeatView I)) → number_past c (all_drawn views) ≡ total (λ v. number_past c v.drawn) views
  unfolding all_drawn
  past_all c [] = refl
  past_all c (v ∷ views) = let a = past-append c (cond v.spent [] v.drawn) (all_drawn views) in let p = past_part c v.spent v.drawn in let h = past_all c views in omega arith

  part_most : (f g : SeatView I → ℕ) (v : SeatView I) (b : Bool) → v.spent ≡ b → (v.spent ≡ false → f v ≤ g v) → cond b 0 (f v) ≤ cond b 0 (g v)
  part_most f g v true e h = omega arith
  part_most f g v false e h = h e

  total_most : (f g : SeatView I → ℕ) (views : List (SeatView I)) → EachSeat (λ v. f v ≤ g v) views → total f views ≤ total g views
  total_most f g [] each = omega arith
  total_most f g (v ∷ views) each = let h = total_most f g views (λ j u at live. each (suc j) u at live) in let p = part_most f g v v.spent refl (each 0 v refl) in omega arith

  -- the word goes beyond the count by at most the number of workers
  pub word_bound : (c word : ℕ) (views : List (SeatView I)) → ((n : ℕ) → total (λ v. times n v.drawn) views ≡ once_below n word) → EachSeat (λ v. number_past c v.drawn ≤ v.workers) views
      → word ≤ c + total (λ v. v.workers) views
  word_bound c word views numbers each =
      let b = past_bound c word (all_drawn views) (λ n. times_all n views ∙ numbers n) in let p = past_all c views in
      let m = total_most (λ v. number_past c v.drawn) (λ v. v.workers) views each in omega arith
