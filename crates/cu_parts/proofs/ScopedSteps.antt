-- Loops over local functions, variables and functions, one step at a time.
use Rattle.std.proofs.Common.{◌≡◌, ◌↔◌, ◌||◌, ◌&&◌, not, ℕ, zero, suc, ◌+◌, ◌<◌, ◌≤◌, ◌⊎◌, inl, inr, Bool, true, false, cond, IsTrue, nat_eq, nat_lt, List, [], ◌∷◌, ◌++◌, Option, IsSome, None, Some, length, slice_get, take, refl, ap, sym, ◌∙◌, subst, arith}
use Rattle.std.specs.BTreeMap.{is_at}
use Rattle.std.specs.Ordering.{is_eq, nat_cmp}
use Rattle.std.specs.declared.cmp.Ordering.TheVariants.{Equal, Greater, Less}
use Rattle.cu_calculus.specs.Valid.{holds, is_linear}
use Rattle.cu_kernel.specs.LocalKernel.{LocalFunction, TopFunction}
use Rattle.cu_kernel.specs.LocalValid.{IsScoped}
use Rattle.cu_parts.proofs.ScopedLemmas.{unused_fits}
use Rattle.cu_parts.proofs.Tests.{and_both, and_first, and_second, any_append, any_at, apart, either, held_either, not_false, not_held, not_true, of_not, or_cases, or_first, or_second, same_is, same_self}
use Rattle.cu_parts.specs.Inside.Capturing.{met_at}
use Rattle.cu_parts.specs.Inside.FreeUses.{free_in_function}
use Rattle.cu_parts.specs.Inside.Scoping.{Collects, Distinct, FitsOrLeft, MayBelow, MayCapture, ScopedBelow, VariableFits, fits_capturing, is_key, may_capture}

low_or_here : (k n : ℕ) → k < n + 1 → (k < n) ⊎ (n ≡ k)
low_or_here k n low = elim (either (nat_eq n k)) [ inl e ↦ inr (search (arith, e)) | inr e ↦ inl (search (arith, e, low)) ]

below_length : {A : Type 0} (xs : List A) (k : ℕ) (x : A) → slice_get xs k ≡ Some x → k < length xs
below_length [] k x e = let absent : ⊥ = cc in absurd absent
below_length (y ∷ xs) zero x e = omega arith
below_length (y ∷ xs) (suc k) x e = let rest = below_length xs k x e in omega (arith, rest)

-- one more element
pub take_step : {A : Type 0} (xs : List A) (i : ℕ) (x : A) → slice_get xs i ≡ Some x → take (i + 1) xs ≡ take i xs ++ x ∷ []
take_step [] i x e = let absent : ⊥ = cc in absurd absent
take_step (y ∷ xs) zero x e = let same : y ≡ x = cc in ap (λ z. z ∷ []) same
take_step (y ∷ xs) (suc i) x e =
    let one : suc i + 1 ≡ suc (i + 1) = omega arith in ap (λ n. take n (y ∷ xs)) one ∙ ap (λ ys. y ∷ ys) (take_step xs i x e)

-- ---- local functions that are met

pub may_next : (locals : List LocalFunction) (v : ℕ) (bound : Bool) (met : List Bool) (n : ℕ) (g : LocalFunction) → slice_get locals n ≡ Some g
    → fits_capturing v bound (met_at met n) g ≡ true → MayBelow locals v bound met n → MayBelow locals v bound met (n + 1)
may_next locals v bound met n g at fits before k f low e is = elim (low_or_here k n low) [
  | inl under ↦ before k f under e is
  | inr here ↦
      let same : g ≡ f = (let both : Some g ≡ Some f = sym at ∙ ap (slice_get locals) here ∙ e in cc) in
      let met_here : met_at met n ≡ true = ap (met_at met) here ∙ is in
      elim (or_cases (not (met_at met n)) (may_capture v bound g) fits) [
        | inl unmet ↦ let never : not true ≡ true = ap not (sym met_here) ∙ unmet in let absent : ⊥ = cc in absurd absent
        | inr may ↦ subst (λ (h : LocalFunction). may_capture v bound h ≡ true) same may
      ]
]

pub may_not : (locals : List LocalFunction) (v : ℕ) (bound : Bool) (met : List Bool) (n : ℕ) (g : LocalFunction) → slice_get locals n ≡ Some g
    → fits_capturing v bound (met_at met n) g ≡ false → MayCapture locals v bound met → ⊥
may_not locals v bound met n g at fails may = elim (either (met_at met n)) [
  | inl is ↦ apart (fits_capturing v bound (met_at met n) g) (or_second (not (met_at met n)) (may_capture v bound g) (may n g at is)) fails
  | inr isnt ↦ apart (fits_capturing v bound (met_at met n) g) (or_first (not (met_at met n)) (may_capture v bound g) (ap not isnt)) fails
]

pub refused_capture : (locals : List LocalFunction) (v : ℕ) (bound : Bool) (met : List Bool) (n : ℕ) (g : LocalFunction) (b : Bool) → slice_get locals n ≡ Some g
    → b ≡ fits_capturing v bound (met_at met n) g → b ≡ false → IsTrue false ↔ MayCapture locals v bound met
refused_capture locals v bound met n g b at is fails =
    (λ h. (let absent : ⊥ = cc in absurd absent), λ may. absurd (may_not locals v bound met n g at (sym is ∙ fails) may))

pub may_all : (locals : List LocalFunction) (v : ℕ) (bound : Bool) (met : List Bool) (n : ℕ) → length locals ≤ n → MayBelow locals v bound met n
    → MayCapture locals v bound met
may_all locals v bound met n end below k f e is = let low = below_length locals k f e in below k f (omega arith) e is

-- ---- sets of variables

equal_at : (b d : Bool) (x y : ℕ) → nat_lt x y ≡ b → nat_eq x y ≡ d → is_eq (cond b Less (cond d Equal Greater)) ≡ d
equal_at false true x y e h = refl
equal_at false false x y e h = refl
equal_at true false x y e h = refl
equal_at true true x y e h =
    let low : x < y = search (arith, e) in let same : x ≡ y = search (arith, h) in absurd (omega arith)

pub at_is : (x y : ℕ) → is_at (nat_cmp x) y ≡ nat_eq x y
at_is x y = equal_at (nat_lt x y) (nat_eq x y) x y refl refl

pub key_is : (keys : List ℕ) (x : ℕ) → is_key keys x ≡ holds x keys
key_is [] x = refl
key_is (y ∷ keys) x = ap (λ b. b || is_key keys x) (at_is x y) ∙ ap (λ b. nat_eq x y || b) (key_is keys x)

inserted : (x y : ℕ) (old new : List ℕ) → is_key new y ≡ cond (is_at (nat_cmp x) y) true (is_key old y) → is_key new y ≡ nat_eq x y || is_key old y
inserted x y old new is = is ∙ by (is_at (nat_cmp x) y) (nat_eq x y) (at_is x y)
  where
    by : (b d : Bool) → b ≡ d → cond b true (is_key old y) ≡ d || is_key old y
    by true true e = refl
    by false false e = refl
    by true false e = let absent : ⊥ = cc in absurd absent
    by false true e = let absent : ⊥ = cc in absurd absent

pub none_collected : (keys : List ℕ) → Collects [] keys
none_collected keys x h = let absent : ⊥ = cc in absurd absent

pub collects_next : (xs : List ℕ) (x : ℕ) (old new : List ℕ) → ((y : ℕ) → is_key new y ≡ cond (is_at (nat_cmp x) y) true (is_key old y))
    → Collects xs old → Collects (xs ++ x ∷ []) new
collects_next xs x old new is before y h = elim (held_either y xs (x ∷ []) h) [
  | inl early ↦ inserted x y old new (is y) ∙ or_second (nat_eq x y) (is_key old y) (before y early)
  | inr late ↦
      let same : y ≡ x = elim (or_cases (nat_eq y x) false late) [ inl e ↦ same_is y x e | inr e ↦ (let absent : ⊥ = cc in absurd absent) ] in
      inserted x y old new (is y) ∙ or_first (nat_eq x y) (is_key old y) (ap (nat_eq x) same ∙ same_self x)
]

pub first_left : (f : TopFunction) (keys : List ℕ) → Collects (free_in_function f) keys → FitsOrLeft f keys
first_left f keys collects x = elim (either (holds x (free_in_function f))) [
  | inl used ↦ inr (collects x used)
  | inr unused ↦ inl (unused_fits f x unused)
]

pub next_left : (f : TopFunction) (x : ℕ) (keys rest : List ℕ) → keys ≡ x ∷ rest → VariableFits f x → FitsOrLeft f keys → FitsOrLeft f rest
next_left f x keys rest is fits before y = elim (before y) [
  | inl done ↦ inl done
  | inr left ↦ elim (or_cases (is_at (nat_cmp y) x) (is_key rest y) (sym (ap (λ ks. is_key ks y) is) ∙ left)) [
    | inl here ↦ inl (subst (VariableFits f) (sym (same_is y x (sym (at_is y x) ∙ here))) fits)
    | inr later ↦ inr later
  ]
]

pub all_fit : (f : TopFunction) (keys : List ℕ) → keys ≡ [] → FitsOrLeft f keys → (x : ℕ) → VariableFits f x
all_fit f keys none left x = elim (left x) [
  | inl fits ↦ fits
  | inr h ↦ let never : false ≡ true = sym (ap (λ ks. is_key ks x) none) ∙ h in let absent : ⊥ = cc in absurd absent
]

-- ---- functions

pub scoped_next : (functions : List TopFunction) (n : ℕ) (g : TopFunction) → slice_get functions n ≡ Some g → IsScoped g → ScopedBelow functions n
    → ScopedBelow functions (n + 1)
scoped_next functions n g at scoped before k f low e = elim (low_or_here k n low) [
  | inl under ↦ before k f under e
  | inr here ↦
      let same : g ≡ f = (let both : Some g ≡ Some f = sym at ∙ ap (slice_get functions) here ∙ e in cc) in
      subst IsScoped same scoped
]

pub scoped_all : (functions : List TopFunction) (n : ℕ) → length functions ≤ n → ScopedBelow functions n → (k : ℕ) (f : TopFunction)
    → slice_get functions k ≡ Some f → IsScoped f
scoped_all functions n end below k f e = let low = below_length functions k f e in below k f (omega arith) e

-- ---- variables that stand twice

one_held : (y x : ℕ) → holds y (x ∷ []) ≡ true → y ≡ x
one_held y x h = elim (or_cases (nat_eq y x) false h) [ inl e ↦ same_is y x e | inr e ↦ (let absent : ⊥ = cc in absurd absent) ]

linear_last : (xs : List ℕ) (x : ℕ) → is_linear xs ≡ true → holds x xs ≡ false → is_linear (xs ++ x ∷ []) ≡ true
linear_last [] x linear free = refl
linear_last (y ∷ xs) x linear free =
    let more = xs ++ x ∷ [] in
    and_both (not (holds y more)) (is_linear more)
    (not_held (holds y more) (λ at. elim (held_either y xs (x ∷ []) at) [
      | inl early ↦ not_true (holds y xs) (and_first (not (holds y xs)) (is_linear xs) linear) early
      | inr late ↦
          apart (holds x (y ∷ xs)) (or_first (nat_eq x y) (holds x xs) (ap (nat_eq x) (one_held y x late) ∙ same_self x)) free
    ]))
    (linear_last xs x (and_second (not (holds y xs)) (is_linear xs) linear)
    (not_false (holds x xs) (λ h. apart (holds x (y ∷ xs)) (or_second (nat_eq x y) (holds x xs) h) free)))

same_order : (x y : ℕ) → nat_eq x y ≡ nat_eq y x
same_order x y = elim (either (nat_eq x y)) [
  | inl e ↦ let same : x ≡ y = same_is x y e in e ∙ sym (ap (nat_eq y) same ∙ same_self y)
  | inr e ↦ e ∙ sym (not_false (nat_eq y x) (λ h. apart (nat_eq x y) (ap (nat_eq x) (same_is y x h) ∙ same_self x) e))
]

turned : (a b d : Bool) → a ≡ d → a || b ≡ b || (d || false)
turned true true d e = refl
turned true false d e = ap (λ x. x || false) e
turned false true d e = refl
turned false false d e = ap (λ x. x || false) e

pub none_distinct : (keys : List ℕ) → keys ≡ [] → Distinct [] keys
none_distinct keys none = record { linear = refl; seen = λ y. ap (λ ks. is_key ks y) none }

pub distinct_next : (xs : List ℕ) (x : ℕ) (old new : List ℕ) → ((y : ℕ) → is_key new y ≡ cond (is_at (nat_cmp x) y) true (is_key old y))
    → true ≡ not (is_key old x) → Distinct xs old → Distinct (xs ++ x ∷ []) new
distinct_next xs x old new is added before = record {
  linear = linear_last xs x before.linear (sym (before.seen x) ∙ of_not (is_key old x) (sym added));
  seen = λ y.
      inserted x y old new (is y) ∙ ap (λ b. nat_eq x y || b) (before.seen y) ∙ turned (nat_eq x y) (holds y xs) (nat_eq y x) (same_order x y)
      ∙ sym (any_append (nat_eq y) xs (x ∷ []));
}

twice : (xs : List ℕ) (i x : ℕ) → slice_get xs i ≡ Some x → holds x (take i xs) ≡ true → is_linear xs ≡ false
twice [] i x e h = let absent : ⊥ = cc in absurd absent
twice (y ∷ xs) zero x e h = let absent : ⊥ = cc in absurd absent
twice (y ∷ xs) (suc i) x e h = elim (or_cases (nat_eq x y) (holds x (take i xs)) h) [
  | inl here ↦
      let there : holds y xs ≡ true = any_at (nat_eq y) xs i x e (sym (same_order x y) ∙ here) in
      ap (λ b. not b && is_linear xs) there
  | inr later ↦ not_false (not (holds y xs) && is_linear xs)
      (λ bad. apart (is_linear xs) (and_second (not (holds y xs)) (is_linear xs) bad) (twice xs i x e later))
]

pub not_distinct : (xs : List ℕ) (i x : ℕ) (keys : List ℕ) → slice_get xs i ≡ Some x → false ≡ not (is_key keys x) → Distinct (take i xs) keys
    → false ≡ is_linear xs
not_distinct xs i x keys e known before =
    sym (twice xs i x e (sym (before.seen x) ∙ there (is_key keys x) known))
  where
    there : (b : Bool) → false ≡ not b → b ≡ true
    there true h = refl
    there false h = let absent : ⊥ = cc in absurd absent

-- ---- tests that fail

pub refused_by : {A B : Type 0} (b : Bool) → b ≡ false → IsTrue b ↔ A → (B → A) → IsTrue false ↔ B
refused_by b fails decides needs = (
  λ h. (let absent : ⊥ = cc in absurd absent),
  λ all. (let is : b ≡ true = decides.1 (needs all) in let absent : ⊥ = cc in absurd absent),
)

-- nothing is left in a set that gave nothing
pub popped_none : (r : Option ℕ) (keys : List ℕ) → (0 < length keys → IsSome r) → ((x : ℕ) → r ≡ Some x → ⊥) → keys ≡ []
popped_none r [] some none = refl
popped_none None (k ∷ keys) some none = let is : false ≡ true = some (omega arith) in let absent : ⊥ = cc in absurd absent
popped_none (Some x) (k ∷ keys) some none = absurd (none x refl)
