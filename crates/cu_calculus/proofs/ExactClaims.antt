-- The rows of true claims are the exact ones of lower levels, and function and arguments determine
-- a row.
use Rattle.std.proofs.Common.{◌≡◌, ℕ, zero, suc, ◌<◌, true, List, [], ◌∷◌, ◌⊎◌, inl, inr, Some, IsTrue, slice_get, refl, ap₂, sym, ◌∙◌, subst, arith, Ordering, Less, Equal, Greater}
use Rattle.std.specs.Ordering.{is_lt}
use Rattle.std.proofs.lemmas.Bool.{and_parts, cases_eq}
use Rattle.cu_calculus.specs.declared.FunId.{FunId}
use Rattle.cu_calculus.specs.Claims.{AreTrue, Concludes, IsExact, level_of}
use Rattle.cu_calculus.specs.Gives.{Claim}
use Rattle.cu_calculus.specs.Order.{rises, value_order}
use Rattle.cu_calculus.specs.Program.{Program}
use Rattle.cu_calculus.specs.Value.{Value, Values}
use Rattle.cu_calculus.proofs.ValueOrder.{order_itself, order_less}

is_less : (o : Ordering) → is_lt o ≡ true → o ≡ Less
is_less Less e = refl
is_less Equal e = let no : ⊥ = cc in absurd no
is_less Greater e = let no : ⊥ = cc in absurd no

rises_tail : (x : Value) (xs : List Value) → IsTrue (rises (x ∷ xs)) → IsTrue (rises xs)
rises_tail x [] h = refl
rises_tail x (y ∷ ys) h = (and_parts (is_lt (value_order x y)) (rises (y ∷ ys)) h).1

-- what stands later in a rising list is greater
rises_above : (x : Value) (xs : List Value) (k : ℕ) (v : Value) → IsTrue (rises (x ∷ xs)) → slice_get xs k ≡ Some v → value_order x v ≡ Less
rises_above x [] k v h e = let no : ⊥ = cc in absurd no
rises_above x (y ∷ ys) zero v h e =
    let same : y ≡ v = cc in
    subst (λ (z : Value). value_order x z ≡ Less) same
    (is_less (value_order x y) (and_parts (is_lt (value_order x y)) (rises (y ∷ ys)) h).0)
rises_above x (y ∷ ys) (suc k) v h e =
    let parts = and_parts (is_lt (value_order x y)) (rises (y ∷ ys)) h in
    order_less x y v (is_less (value_order x y) parts.0) (rises_above y ys k v parts.1 e)

-- no value is below itself
not_below_itself : (x y : Value) → x ≡ y → value_order x y ≡ Less → ⊥
not_below_itself x y e f =
    let itself : value_order x x ≡ Less = subst (λ (z : Value). value_order x z ≡ Less) (sym e) f in
    let equal = order_itself x in
    let no : ⊥ = cc in
    no

-- each element of a list stands in another
abbrev pub Within : List Value → List Value → Type 0
Within xs ys = (k : ℕ) (v : Value) → slice_get xs k ≡ Some v → (m : ℕ) × (slice_get ys m ≡ Some v)

first_or_greater : (x y : Value) (ys : List Value) (m : ℕ) → IsTrue (rises (y ∷ ys)) → slice_get (y ∷ ys) m ≡ Some x
    → (y ≡ x) ⊎ (value_order y x ≡ Less)
first_or_greater x y ys zero h e = inl (cc)
first_or_greater x y ys (suc m) h e = inr (rises_above y ys m x h e)

heads_same : (x y : Value) → (y ≡ x) ⊎ (value_order y x ≡ Less) → (x ≡ y) ⊎ (value_order x y ≡ Less) → x ≡ y
heads_same x y (inl e) k = sym e
heads_same x y (inr l) (inl e) = e
heads_same x y (inr l) (inr k) = absurd (not_below_itself x x refl (order_less x y x k l))

tails_within : (x y : Value) (xs ys : List Value) → IsTrue (rises (x ∷ xs)) → x ≡ y → Within (x ∷ xs) (y ∷ ys) → Within xs ys
tails_within x y xs ys h same within k v e = by (within (suc k) v e).0 (within (suc k) v e).1
  where
    by : (m : ℕ) → slice_get (y ∷ ys) m ≡ Some v → (m : ℕ) × (slice_get ys m ≡ Some v)
    by zero f = let last : y ≡ v = cc in absurd (not_below_itself x v (same ∙ last) (rises_above x xs k v h e))
    by (suc m) f = (m, f)

-- rising lists of the same elements are one
pub rising_same : (xs ys : List Value) → IsTrue (rises xs) → IsTrue (rises ys) → Within xs ys → Within ys xs → xs ≡ ys
rising_same [] [] h k there converse = refl
rising_same [] (y ∷ ys) h k there converse = let found = converse 0 y refl in let e = found.1 in let no : ⊥ = cc in absurd no
rising_same (x ∷ xs) [] h k there converse = let found = there 0 x refl in let e = found.1 in let no : ⊥ = cc in absurd no
rising_same (x ∷ xs) (y ∷ ys) h k there converse =
    let one = there 0 x refl in
    let two = converse 0 y refl in
    let same : x ≡ y = heads_same x y (first_or_greater x y ys one.0 k one.1) (first_or_greater y x xs two.0 h two.1) in
    ap₂ (λ (v : Value) (vs : List Value). v ∷ vs) same
    (rising_same xs ys (rises_tail x xs h) (rises_tail y ys k) (tails_within x y xs ys h same there)
    (tails_within y x ys xs k (sym same) converse))

-- a row is exact by the claims that are true at its function's level
abbrev pub IsExactRow : Program → List ℕ → Claim → Type 0
IsExactRow program levels claim = IsExact program (AreTrue program levels (level_of levels claim.function)) claim

exact_at : (program : Program) (levels : List ℕ) (level : ℕ) (claim : Claim) → level_of levels claim.function ≡ level
    → IsExact program (AreTrue program levels level) claim → IsExactRow program levels claim
exact_at program levels level claim e h = subst (λ (n : ℕ). IsExact program (AreTrue program levels n) claim) (sym e) h

pub true_exact : (program : Program) (levels : List ℕ) (level : ℕ) (claims : List Claim) → AreTrue program levels level claims
    → (k : ℕ) (claim : Claim) → slice_get claims k ≡ Some claim → (level_of levels claim.function < level) × IsExactRow program levels claim
unfolding AreTrue
true_exact program levels zero claims h k claim e =
    let found : slice_get [] k ≡ Some claim = subst (λ (cs : List Claim). slice_get cs k ≡ Some claim) h e in
    let no : ⊥ = cc in
    absurd no
true_exact program levels (suc level) claims h k claim e =
    elim (h k claim e) [
      | inl here ↦
          let at : level_of levels claim.function ≡ level = here.0 in
          let below : level_of levels claim.function < suc level = omega arith in
          (below, exact_at program levels level claim at here.1)
      | inr before ↦
          let rest = true_exact program levels level (claim ∷ []) before 0 claim refl in
          let less : level_of levels claim.function < level = rest.0 in
          let below : level_of levels claim.function < suc level = omega arith in
          (below, rest.1)
    ]

pub exact_true : (program : Program) (levels : List ℕ) (level : ℕ) (claims : List Claim)
    → ((k : ℕ) (claim : Claim) → slice_get claims k ≡ Some claim → (level_of levels claim.function < level) × IsExactRow program levels claim)
    → AreTrue program levels level claims
unfolding AreTrue
exact_true program levels zero [] h = refl
exact_true program levels zero (claim ∷ claims) h =
    let low : level_of levels claim.function < 0 = (h 0 claim refl).0 in absurd (omega arith)
exact_true program levels (suc level) claims h = λ k claim e.
    let row = h k claim e in
    let below : level_of levels claim.function < suc level = row.0 in
    elim (cases_eq (level_of levels claim.function) level) [
      | inl at ↦ inl (at, subst (λ (n : ℕ). IsExact program (AreTrue program levels n) claim) at row.1)
      | inr other ↦
          let less : level_of levels claim.function < level = omega arith in
          inr (exact_true program levels level (claim ∷ []) (alone claim less row.1))
    ]
  where
    alone : (claim : Claim) → level_of levels claim.function < level → IsExactRow program levels claim → (k : ℕ) (other : Claim)
        → slice_get (claim ∷ []) k ≡ Some other → (level_of levels other.function < level) × IsExactRow program levels other
    alone claim less exact zero other e =
        let same : claim ≡ other = cc in
        subst (λ (c : Claim). (level_of levels c.function < level) × IsExactRow program levels c) same (less, exact)
    alone claim less exact (suc k) other e = let no : ⊥ = cc in absurd no

values_within : (program : Program) (are_true : List Claim → Type 0) (claim twin : Claim) → IsExact program are_true claim
    → IsExact program are_true twin → claim.function ≡ twin.function → claim.arguments ≡ twin.arguments → Within claim.values twin.values
values_within program are_true claim twin one two f a k v e =
    let found = one.each k v e in
    let call : Concludes program found.1 twin.function twin.arguments v =
    subst (λ (g : FunId). Concludes program found.1 g twin.arguments v) f
    (subst (λ (us : Values). Concludes program found.1 claim.function us v) a found.3) in
    two.every found.1 v found.2 found.0 call

exact_same : (program : Program) (are_true : List Claim → Type 0) (claim twin : Claim) → IsExact program are_true claim
    → IsExact program are_true twin → claim.function ≡ twin.function → claim.arguments ≡ twin.arguments → claim.values ≡ twin.values
exact_same program are_true claim twin one two f a =
    rising_same claim.values twin.values one.ordered two.ordered (values_within program are_true claim twin one two f a)
    (values_within program are_true twin claim two one (sym f) (sym a))

-- function and arguments determine the values of a true row
pub row_determined : (program : Program) (levels : List ℕ) (claim twin : Claim) → IsExactRow program levels claim → IsExactRow program levels twin
    → claim.function ≡ twin.function → claim.arguments ≡ twin.arguments → claim.values ≡ twin.values
row_determined program levels claim twin one two f a =
    let there : IsExact program (AreTrue program levels (level_of levels claim.function)) twin =
    subst (λ (g : FunId). IsExact program (AreTrue program levels (level_of levels g)) twin) (sym f) two in
    exact_same program (AreTrue program levels (level_of levels claim.function)) claim twin one there f a
