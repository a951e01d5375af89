-- The functions of each rank.
use Rattle.std.proofs.Common.{◌≡◌, ◌≢◌, ℕ, zero, suc, ◌+◌, ◌≤◌, ◌⊎◌, inl, inr, true, false, cond, nat_eq, List, [], ◌∷◌, ◌++◌, drop, length, set, Some, slice_get, refl, ap, sym, ◌∙◌, subst, arith, append_assoc}
use Rattle.std.specs.declared.alloc.Global.{Global}
use Rattle.std.specs.declared.vec.Vec.{Vec}
use Rattle.cu_calculus.specs.declared.FunId.{FunId}
use Rattle.cu_cycles.proofs.Places.{nothing_after, same_or_not, set_cases}
use Rattle.cu_lift.specs.Inside.Levelling.{AreMembers, of_rank}

pub eq_true : (a b : ℕ) → a ≡ b → nat_eq a b ≡ true
eq_true a b h = search (arith, h)

pub eq_false : (a b : ℕ) → a ≢ b → nat_eq a b ≡ false
eq_false a b h = search (arith, h)

pub here_is : (r f x : ℕ) (ranks : List ℕ) → x ≡ r → of_rank r f (x ∷ ranks) ≡ record { 0 = f } ∷ of_rank r (f + 1) ranks
here_is r f x ranks e = ap (λ b. cond b (record { 0 = f } ∷ of_rank r (f + 1) ranks) (of_rank r (f + 1) ranks)) (eq_true x r e)

pub here_not : (r f x : ℕ) (ranks : List ℕ) → x ≢ r → of_rank r f (x ∷ ranks) ≡ of_rank r (f + 1) ranks
here_not r f x ranks h = ap (λ b. cond b (record { 0 = f } ∷ of_rank r (f + 1) ranks) (of_rank r (f + 1) ranks)) (eq_false x r h)

in_later : (r f x : ℕ) (ranks : List ℕ) (v : FunId) → (j : ℕ) × (v.0 ≡ f + 1 + j) × (slice_get ranks j ≡ Some r)
    → (j : ℕ) × (v.0 ≡ f + j) × (slice_get (x ∷ ranks) j ≡ Some r)
in_later r f x ranks v rest = let at : v.0 ≡ f + 1 + rest.0 = rest.1 in (suc rest.0, omega arith, rest.2)

in_here : (r f x : ℕ) (ranks : List ℕ) (k : ℕ) (v : FunId) → x ≡ r → slice_get (record { 0 = f } ∷ of_rank r (f + 1) ranks) k ≡ Some v
    → ((m : ℕ) → slice_get (of_rank r (f + 1) ranks) m ≡ Some v → (j : ℕ) × (v.0 ≡ f + 1 + j) × (slice_get ranks j ≡ Some r))
    → (j : ℕ) × (v.0 ≡ f + j) × (slice_get (x ∷ ranks) j ≡ Some r)
in_here r f x ranks zero v same d rest =
    let is : record { 0 = f } ≡ v = cc in let at : f ≡ v.0 = ap (λ (w : FunId). w.0) is in (0, omega arith, ap Some same)
in_here r f x ranks (suc m) v same d rest = in_later r f x ranks v (rest m d)

in_by : (r f x : ℕ) (ranks : List ℕ) (k : ℕ) (v : FunId) → slice_get (of_rank r f (x ∷ ranks)) k ≡ Some v
    → ((m : ℕ) → slice_get (of_rank r (f + 1) ranks) m ≡ Some v → (j : ℕ) × (v.0 ≡ f + 1 + j) × (slice_get ranks j ≡ Some r))
    → (x ≡ r) ⊎ (x ≢ r) → (j : ℕ) × (v.0 ≡ f + j) × (slice_get (x ∷ ranks) j ≡ Some r)
in_by r f x ranks k v e rest (inl same) =
    in_here r f x ranks k v same (subst (λ (y : List FunId). slice_get y k ≡ Some v) (here_is r f x ranks same) e) rest
in_by r f x ranks k v e rest (inr other) =
    in_later r f x ranks v (rest k (subst (λ (y : List FunId). slice_get y k ≡ Some v) (here_not r f x ranks other) e))

all_by : (r f x : ℕ) (ranks : List ℕ) (j : ℕ) → (k : ℕ) × (slice_get (of_rank r (f + 1) ranks) k ≡ Some (record { 0 = f + 1 + j }))
    → (x ≡ r) ⊎ (x ≢ r) → (k : ℕ) × (slice_get (of_rank r f (x ∷ ranks)) k ≡ Some (record { 0 = f + suc j }))
all_by r f x ranks j rest (inl same) =
    let at : f + 1 + j ≡ f + suc j = omega arith in
    (suc rest.0, ap (λ (y : List FunId). slice_get y (suc rest.0)) (here_is r f x ranks same) ∙ rest.1 ∙ ap (λ (n : ℕ). Some (record { 0 = n })) at)
all_by r f x ranks j rest (inr other) =
    let at : f + 1 + j ≡ f + suc j = omega arith in
    (rest.0, ap (λ (y : List FunId). slice_get y rest.0) (here_not r f x ranks other) ∙ rest.1 ∙ ap (λ (n : ℕ). Some (record { 0 = n })) at)

-- a function of a rank has that rank
pub of_rank_in : (r f : ℕ) (ranks : List ℕ) (k : ℕ) (v : FunId) → slice_get (of_rank r f ranks) k ≡ Some v
    → (j : ℕ) × (v.0 ≡ f + j) × (slice_get ranks j ≡ Some r)
of_rank_in r f [] k v e = let no : ⊥ = cc in absurd no
of_rank_in r f (x ∷ ranks) k v e = in_by r f x ranks k v e (λ m d. of_rank_in r (f + 1) ranks m v d) (same_or_not x r)

-- and each function that has it is among them
pub of_rank_all : (r f : ℕ) (ranks : List ℕ) (j : ℕ) → slice_get ranks j ≡ Some r → (k : ℕ) × (slice_get (of_rank r f ranks) k ≡ Some (record { 0 = f + j }))
of_rank_all r f [] j e = let no : ⊥ = cc in absurd no
of_rank_all r f (x ∷ ranks) zero e =
    let same : x ≡ r = cc in
    let at : f ≡ f + 0 = omega arith in
    (0, ap (λ (y : List FunId). slice_get y 0) (here_is r f x ranks same) ∙ ap (λ (n : ℕ). Some (record { 0 = n })) at)
of_rank_all r f (x ∷ ranks) (suc j) e = all_by r f x ranks j (of_rank_all r (f + 1) ranks j e) (same_or_not x r)

pub members_in : (ranks : List ℕ) (count : ℕ) (members : List (Vec FunId Global)) → AreMembers ranks count members → (r : ℕ) (row : Vec FunId Global)
    → slice_get members r ≡ Some row → (k : ℕ) (v : FunId) → slice_get row.items k ≡ Some v → slice_get ranks v.0 ≡ Some r
members_in ranks count members are r row e k v d =
    let found = of_rank_in r 0 ranks k v (subst (λ (x : List FunId). slice_get x k ≡ Some v) (are.each r row e) d) in
    let at : v.0 ≡ 0 + found.0 = found.1 in
    let same : found.0 ≡ v.0 = omega arith in
    subst (λ (n : ℕ). slice_get ranks n ≡ Some r) same found.2

pub members_all : (ranks : List ℕ) (count : ℕ) (members : List (Vec FunId Global)) → AreMembers ranks count members → (r : ℕ) (row : Vec FunId Global)
    → slice_get members r ≡ Some row → (v : ℕ) → slice_get ranks v ≡ Some r → (k : ℕ) × (slice_get row.items k ≡ Some (record { 0 = v }))
members_all ranks count members are r row e v d =
    let found = of_rank_all r 0 ranks v d in
    let at : 0 + v ≡ v = omega arith in (
      found.0,
      ap (λ (x : List FunId). slice_get x found.0) (are.each r row e) ∙ found.1 ∙ ap (λ (n : ℕ). Some (record { 0 = n })) at,
    )

-- ---- one more function

cut : (ranks : List ℕ) (f x : ℕ) → slice_get ranks f ≡ Some x → drop f ranks ≡ x ∷ drop (f + 1) ranks
cut [] f x e = let no : ⊥ = cc in absurd no
cut (y ∷ ranks) zero x e = let same : y ≡ x = cc in ap (λ z. z ∷ ranks) same
cut (y ∷ ranks) (suc f) x e =
    let one : suc f + 1 ≡ suc (f + 1) = omega arith in
    cut ranks f x e ∙ ap (λ (n : ℕ). x ∷ drop n (y ∷ ranks)) (sym one)

pub member_step : (ranks : List ℕ) (members : List (Vec FunId Global)) (f x : ℕ) (old new : Vec FunId Global)
    → ((r : ℕ) (row : Vec FunId Global) → slice_get members r ≡ Some row → row.items ++ of_rank r f (drop f ranks) ≡ of_rank r 0 ranks)
    → slice_get ranks f ≡ Some x → slice_get members x ≡ Some old → new.items ≡ old.items ++ record { 0 = f } ∷ []
    → (r : ℕ) (row : Vec FunId Global) → slice_get (set members x new) r ≡ Some row → row.items ++ of_rank r (f + 1) (drop (f + 1) ranks) ≡ of_rank r 0 ranks
member_step ranks members f x old new keeps e is_old pushed r row d = by (set_cases members x r new row d)
  where
    by : ((r ≡ x) × (new ≡ row)) ⊎ ((r ≢ x) × (slice_get members r ≡ Some row)) → row.items ++ of_rank r (f + 1) (drop (f + 1) ranks) ≡ of_rank r 0 ranks
    by (inl h) =
        subst (λ (n : ℕ). row.items ++ of_rank n (f + 1) (drop (f + 1) ranks) ≡ of_rank n 0 ranks) (sym h.0)
        (ap (λ (v : List FunId). v ++ of_rank x (f + 1) (drop (f + 1) ranks)) (sym (ap (λ (v : Vec FunId Global). v.items) h.1) ∙ pushed)
        ∙ append_assoc old.items (record { 0 = f } ∷ []) (of_rank x (f + 1) (drop (f + 1) ranks))
        ∙ ap (λ (v : List FunId). old.items ++ v)
        (sym (ap (of_rank x f) (cut ranks f x e) ∙ here_is x f x (drop (f + 1) ranks) refl))
        ∙ keeps x old is_old)
    by (inr h) =
        let other : x ≢ r = λ s. h.0 (sym s) in
        ap (λ (v : List FunId). row.items ++ v) (sym (ap (of_rank r f) (cut ranks f x e) ∙ here_not r f x (drop (f + 1) ranks) other))
        ∙ keeps r row h.1

drop_all : (ranks : List ℕ) (n : ℕ) → length ranks ≤ n → drop n ranks ≡ []
drop_all [] zero h = refl
drop_all [] (suc n) h = refl
drop_all (x ∷ ranks) zero h = absurd (omega arith)
drop_all (x ∷ ranks) (suc n) h = drop_all ranks n (omega arith)

pub members_done : (ranks : List ℕ) (count n : ℕ) (members : List (Vec FunId Global)) → length ranks ≤ n → length members ≡ count
    → ((r : ℕ) (row : Vec FunId Global) → slice_get members r ≡ Some row → row.items ++ of_rank r n (drop n ranks) ≡ of_rank r 0 ranks)
    → AreMembers ranks count members
members_done ranks count n members end size keeps = record {
  sized = size;
  each = λ r row e.
      nothing_after row.items ∙ ap (λ (x : List ℕ). row.items ++ of_rank r n x) (sym (drop_all ranks n end)) ∙ keeps r row e;
}
