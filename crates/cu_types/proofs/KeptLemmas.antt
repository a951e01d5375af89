-- What was computed member by member says whether a substitution keeps to the declared types of a group.
use Rattle.std.proofs.Common.{◌≡◌, ◌↔◌, ℕ, zero, suc, ◌+◌, ◌<◌, ◌≤◌, ◌⊎◌, inl, inr, Bool, true, false, ◌||◌, cond, IsTrue, List, [], ◌∷◌, ◌++◌, Option, None, Some, length, nat_eq, slice_get, refl, sym, ap, ◌∙◌, subst, arith, append_assoc, length-append, eq-eqb}
use Rattle.std.specs.List.{list_any}
use Rattle.std.proofs.lemmas.Bool.{eqb-true}
use Rattle.std.proofs.lemmas.Option.{slice_get_within}
use Rattle.cu_calculus.specs.Valid.{holds}
use Rattle.cu_calculus.specs.declared.FunId.{FunId}
use Rattle.cu_kernel.specs.Kernel.{Kernel}
use Rattle.cu_kernel.specs.TypeExpr as type
use Rattle.cu_kernel.specs.TypeExpr.{TypeExpr}
use Rattle.cu_types.specs.Equations.{Member, breadth, declared_breadth, end_of, first_declared, member, members, members_from}
use Rattle.cu_types.specs.Inference.{IsDeclared, IsOfGroup, KeepsDeclared}
use Rattle.cu_types.specs.Inside.Keeping.{Told, among, became, go_on, joined, joined_if, meets, numbers_from, some_meets, variable_of, with_declared, with_first, with_member, with_members}
use Rattle.cu_types.specs.Numbered.{variables_in}
use Rattle.cu_types.specs.Types.{Substitution}

-- places in lists

placed_prefix : {A : Type 0} (xs ys : List A) (k : ℕ) (x : A) → slice_get xs k ≡ Some x → slice_get (xs ++ ys) k ≡ Some x
placed_prefix [] ys k x is = let no : ⊥ = cc in absurd no
placed_prefix (z ∷ xs) ys zero x is = is
placed_prefix (z ∷ xs) ys (suc k) x is = placed_prefix xs ys k x is

placed_suffix : {A : Type 0} (xs ys : List A) (k : ℕ) → slice_get (xs ++ ys) (length xs + k) ≡ slice_get ys k
placed_suffix [] ys k = let e : 0 + k ≡ k = omega arith in ap (slice_get ys) e
placed_suffix (x ∷ xs) ys k =
    let e : length (x ∷ xs) + k ≡ suc (length xs + k) = omega arith in
    ap (slice_get (x ∷ xs ++ ys)) e ∙ placed_suffix xs ys k

-- a place of two lists is one of the first or of the second
placed_either : {A : Type 0} (xs ys : List A) (k : ℕ) (x : A) → slice_get (xs ++ ys) k ≡ Some x
    → (slice_get xs k ≡ Some x) ⊎ ((j : ℕ) × (k ≡ length xs + j) × (slice_get ys j ≡ Some x))
placed_either [] ys k x is = let e : k ≡ 0 + k = omega arith in inr (k, e, is)
placed_either (z ∷ xs) ys zero x is = inl is
placed_either (z ∷ xs) ys (suc k) x is = elim (placed_either xs ys k x is) [
  | inl e ↦ inl e
  | inr w ↦
      let was : k ≡ length xs + w.0 = w.1 in
      let e : suc k ≡ length (z ∷ xs) + w.0 = omega arith in
      inr (w.0, e, w.2)
]

same_place : {A : Type 0} (xs : List A) (i j : ℕ) (x y : A) → i ≡ j → slice_get xs i ≡ Some x → slice_get xs j ≡ Some y → x ≡ y
same_place xs i j x y same at_i at_j =
    let e : Some x ≡ Some y = sym at_i ∙ ap (slice_get xs) same ∙ at_j in cc

-- one of a list

left_false : (a b : Bool) → (a || b) ≡ false → a ≡ false
left_false false b e = refl
left_false true b e = let no : ⊥ = cc in absurd no

right_false : (a b : Bool) → (a || b) ≡ false → b ≡ false
right_false false b e = e
right_false true b e = let no : ⊥ = cc in absurd no

any_false : {A : Type 0} (p : A → Bool) (xs : List A) (k : ℕ) (x : A) → list_any p xs ≡ false → slice_get xs k ≡ Some x → p x ≡ false
any_false p [] k x none is = let no : ⊥ = cc in absurd no
any_false p (y ∷ xs) zero x none is =
    let same : y ≡ x = cc in ap p (sym same) ∙ left_false (p y) (list_any p xs) none
any_false p (y ∷ xs) (suc k) x none is = any_false p xs k x (right_false (p y) (list_any p xs) none) is

any_first : {A : Type 0} (p : A → Bool) (y : A) (xs : List A) (b : Bool) → p y ≡ b → (b || list_any p xs) ≡ true
    → (list_any p xs ≡ true → (k : ℕ) × (x : A) × (slice_get xs k ≡ Some x) × (p x ≡ true))
    → (k : ℕ) × (x : A) × (slice_get (y ∷ xs) k ≡ Some x) × (p x ≡ true)
any_first p y xs true e some go = (0, y, refl, e)
any_first p y xs false e some go = let w = go some in (suc w.0, w.1, w.2, w.3)

-- where it is
any_true : {A : Type 0} (p : A → Bool) (xs : List A) → list_any p xs ≡ true → (k : ℕ) × (x : A) × (slice_get xs k ≡ Some x) × (p x ≡ true)
any_true p [] some = let no : ⊥ = cc in absurd no
any_true p (y ∷ xs) some = any_first p y xs (p y) refl some (any_true p xs)

left_true : (a b : Bool) → a ≡ true → (a || b) ≡ true
left_true true b e = refl
left_true false b e = let no : ⊥ = cc in absurd no

right_true : (a b : Bool) → b ≡ true → (a || b) ≡ true
right_true true b e = refl
right_true false b e = e

any_at : {A : Type 0} (p : A → Bool) (xs : List A) (k : ℕ) (x : A) → slice_get xs k ≡ Some x → p x ≡ true → list_any p xs ≡ true
any_at p [] k x is so = let no : ⊥ = cc in absurd no
any_at p (y ∷ xs) zero x is so =
    let same : y ≡ x = cc in left_true (p y) (list_any p xs) (ap p same ∙ so)
any_at p (y ∷ xs) (suc k) x is so = right_true (p y) (list_any p xs) (any_at p xs k x is so)

is_or_not : (b : Bool) → (b ≡ true) ⊎ (b ≡ false)
is_or_not true = inl refl
is_or_not false = inr refl

-- a number that a list holds
held_place : (y : ℕ) (ks : List ℕ) → holds y ks ≡ true → (k : ℕ) × (slice_get ks k ≡ Some y)
held_place y ks held =
    let w = any_true (nat_eq y) ks held in
    let same : y ≡ w.1 = eqb-true y w.1 w.3 in
    (w.0, w.2 ∙ ap Some (sym same))

among_place : (ys : List ℕ) (x : ℕ) → among ys x ≡ true → (k : ℕ) × (slice_get ys k ≡ Some x)
among_place ys x held =
    let w = any_true (λ y. nat_eq y x) ys held in
    let same : w.1 ≡ x = eqb-true w.1 x w.3 in
    (w.0, w.2 ∙ ap Some same)

-- numbers one after another

number_at : (x count k y : ℕ) → slice_get (numbers_from x count) k ≡ Some y → (k < count) × (y ≡ x + k)
number_at x zero k y is = let no : ⊥ = cc in absurd no
number_at x (suc count) zero y is = let same : x ≡ y = cc in (omega arith, omega arith)
number_at x (suc count) (suc k) y is =
    let w = number_at (x + 1) count k y is in
    let within : k < count = w.0 in
    let same : y ≡ x + 1 + k = w.1 in
    (omega arith, omega arith)

at_number : (x count k : ℕ) → k < count → slice_get (numbers_from x count) k ≡ Some (x + k)
at_number x zero k lt = absurd (omega arith)
at_number x (suc count) zero lt = let e : x ≡ x + 0 = omega arith in ap Some e
at_number x (suc count) (suc k) lt =
    let e : x + 1 + k ≡ x + suc k = omega arith in at_number (x + 1) count k (omega arith) ∙ ap Some e

-- variables that become variables

-- at each place
pub record Becomes (σ : Substitution) (xs ys : List ℕ) : Type 0 where
  pub long : length xs ≡ length ys
  pub each : (k x : ℕ) → slice_get xs k ≡ Some x → (y : ℕ) × (slice_get ys k ≡ Some y) × (σ x ≡ type.Variable y)

becomes_none : (σ : Substitution) → Becomes σ [] []
becomes_none σ = record { long = refl; each = λ k x e. (let no : ⊥ = cc in absurd no) }

becomes_at : (σ : Substitution) (x y : ℕ) (xs ys : List ℕ) → σ x ≡ type.Variable y → Becomes σ xs ys → (k z : ℕ)
    → slice_get (x ∷ xs) k ≡ Some z → (v : ℕ) × (slice_get (y ∷ ys) k ≡ Some v) × (σ z ≡ type.Variable v)
becomes_at σ x y xs ys is rest zero z e = let same : x ≡ z = cc in (y, refl, ap σ (sym same) ∙ is)
becomes_at σ x y xs ys is rest (suc k) z e = rest.each k z e

becomes_first : (σ : Substitution) (x y : ℕ) (xs ys : List ℕ) → σ x ≡ type.Variable y → Becomes σ xs ys → Becomes σ (x ∷ xs) (y ∷ ys)
becomes_first σ x y xs ys is rest = record { long = ap suc rest.long; each = becomes_at σ x y xs ys is rest }

becomes_both : (σ : Substitution) (xs ys us vs : List ℕ) → Becomes σ xs ys → Becomes σ us vs → Becomes σ (xs ++ us) (ys ++ vs)
becomes_both σ xs ys us vs first second = record {
  long = length-append xs us ∙ ap (λ (n : ℕ). n + length us) first.long ∙ ap (λ (n : ℕ). length ys + n) second.long ∙ sym (length-append ys vs);
  each = λ k x e. elim (placed_either xs us k x e) [
    | inl at_k ↦ let w = first.each k x at_k in (w.0, placed_prefix ys vs k w.0 w.1, w.2)
    | inr p ↦
        let w = second.each p.0 x p.2 in
        let here : k ≡ length ys + p.0 = p.1 ∙ ap (λ (n : ℕ). n + p.0) first.long in
        (w.0, ap (slice_get (ys ++ vs)) here ∙ placed_suffix ys vs p.0 ∙ w.1, w.2)
  ];
}

get_at : (xs : List ℕ) (k : ℕ) → k < length xs → (x : ℕ) × (slice_get xs k ≡ Some x)
get_at [] k lt = absurd (omega arith)
get_at (x ∷ xs) zero lt = (x, refl)
get_at (x ∷ xs) (suc k) lt = get_at xs k (omega arith)

-- back from what it became
became_at : (σ : Substitution) (xs ys : List ℕ) (k y : ℕ) → Becomes σ xs ys → slice_get ys k ≡ Some y
    → (x : ℕ) × (slice_get xs k ≡ Some x) × (σ x ≡ type.Variable y)
became_at σ xs ys k y b is =
    let within : k < length ys = slice_get_within ys k y is in
    let long : length xs ≡ length ys = b.long in
    let x = get_at xs k (omega arith) in
    let w = b.each k x.0 x.1 in
    let same : w.0 ≡ y = same_place ys k k w.0 y refl w.1 is in
    (x.0, x.1, w.2 ∙ ap type.Variable same)

is_variable : (t : TypeExpr) (y : ℕ) → variable_of t ≡ Some y → t ≡ type.Variable y
is_variable (type.Variable x) y is = let same : x ≡ y = cc in ap type.Variable same
is_variable (type.Arrow a b) y is = let no : ⊥ = cc in absurd no
is_variable (type.Named name ts) y is = let no : ⊥ = cc in absurd no

became_by : (σ : Substitution) (x : ℕ) (xs ys : List ℕ) (o : Option ℕ) (rest : Option (List ℕ)) → variable_of (σ x) ≡ o
    → with_first o rest ≡ Some ys → ((zs : List ℕ) → rest ≡ Some zs → Becomes σ xs zs) → Becomes σ (x ∷ xs) ys
became_by σ x xs ys None rest here is go = let no : ⊥ = cc in absurd no
became_by σ x xs ys (Some y) None here is go = let no : ⊥ = cc in absurd no
became_by σ x xs ys (Some y) (Some zs) here is go =
    let same : y ∷ zs ≡ ys = cc in
    subst (Becomes σ (x ∷ xs)) same (becomes_first σ x y xs zs (is_variable (σ x) y here) (go zs refl))

became_some : (σ : Substitution) (xs ys : List ℕ) → became σ xs ≡ Some ys → Becomes σ xs ys
became_some σ [] ys is = let none : [] ≡ ys = cc in subst (Becomes σ []) none (becomes_none σ)
became_some σ (x ∷ xs) ys is = became_by σ x xs ys (variable_of (σ x)) (became σ xs) refl is (became_some σ xs)

not_by : (σ : Substitution) (x : ℕ) (xs : List ℕ) (o : Option ℕ) (rest : Option (List ℕ)) → variable_of (σ x) ≡ o
    → with_first o rest ≡ None → (rest ≡ None → (k : ℕ) × (z : ℕ) × (slice_get xs k ≡ Some z) × (variable_of (σ z) ≡ None))
    → (k : ℕ) × (z : ℕ) × (slice_get (x ∷ xs) k ≡ Some z) × (variable_of (σ z) ≡ None)
not_by σ x xs None rest here is go = (0, x, refl, here)
not_by σ x xs (Some y) None here is go = let w = go refl in (suc w.0, w.1, w.2, w.3)
not_by σ x xs (Some y) (Some zs) here is go = let no : ⊥ = cc in absurd no

-- one that became none
not_became : (σ : Substitution) (xs : List ℕ) → became σ xs ≡ None → (k : ℕ) × (x : ℕ) × (slice_get xs k ≡ Some x) × (variable_of (σ x) ≡ None)
not_became σ [] is = let no : ⊥ = cc in absurd no
not_became σ (x ∷ xs) is = not_by σ x xs (variable_of (σ x)) (became σ xs) refl is (not_became σ xs)

-- numbers that come once

abbrev AreDistinct : List ℕ → Type 0
AreDistinct ks = (i j y : ℕ) → slice_get ks i ≡ Some y → slice_get ks j ≡ Some y → i ≡ j

at_last : (y j z : ℕ) → slice_get (y ∷ []) j ≡ Some z → (j ≡ 0) × (z ≡ y)
at_last y zero z is = let same : y ≡ z = cc in (refl, sym same)
at_last y (suc j) z is = let no : ⊥ = cc in absurd no

not_held : (ks : List ℕ) (y i z : ℕ) → holds y ks ≡ false → slice_get ks i ≡ Some z → z ≡ y → ⊥
not_held ks y i z new at_i same =
    let no : nat_eq y z ≡ false = any_false (nat_eq y) ks i z new at_i in
    let yes : nat_eq y z ≡ true = eq-eqb y z (sym same) in
    let none : ⊥ = cc in none

distinct_more : (ks : List ℕ) (y : ℕ) → AreDistinct ks → holds y ks ≡ false → AreDistinct (ks ++ y ∷ [])
distinct_more ks y distinct new i j z at_i at_j = elim (placed_either ks (y ∷ []) i z at_i) [
  | inl left ↦ elim (placed_either ks (y ∷ []) j z at_j) [
    | inl right ↦ distinct i j z left right
    | inr w ↦ absurd (not_held ks y i z new left (at_last y w.0 z w.2).1)
  ]
  | inr v ↦ elim (placed_either ks (y ∷ []) j z at_j) [
    | inl right ↦ absurd (not_held ks y j z new right (at_last y v.0 z v.2).1)
    | inr w ↦
        let a : v.0 ≡ 0 = (at_last y v.0 z v.2).0 in
        let b : w.0 ≡ 0 = (at_last y w.0 z w.2).0 in
        let c : i ≡ length ks + v.0 = v.1 in
        let d : j ≡ length ks + w.0 = w.1 in
        omega arith
  ]
]

nothing_after : (xs : List ℕ) → xs ++ [] ≡ xs
nothing_after [] = refl
nothing_after (x ∷ xs) = ap (λ (ys : List ℕ). x ∷ ys) (nothing_after xs)

joined_by : (ks : List ℕ) (y : ℕ) (ys ls : List ℕ) → AreDistinct ks → (b : Bool) → holds y ks ≡ b
    → cond b None (joined (ks ++ y ∷ []) ys) ≡ Some ls
    → (AreDistinct (ks ++ y ∷ []) → joined (ks ++ y ∷ []) ys ≡ Some ls → AreDistinct ls × (ls ≡ (ks ++ y ∷ []) ++ ys))
    → AreDistinct ls × (ls ≡ ks ++ y ∷ ys)
joined_by ks y ys ls distinct true here is go = let no : ⊥ = cc in absurd no
joined_by ks y ys ls distinct false here is go =
    let w = go (distinct_more ks y distinct here) is in (w.0, w.1 ∙ append_assoc ks (y ∷ []) ys)

-- what was joined
joined_some : (ks ys ls : List ℕ) → AreDistinct ks → joined ks ys ≡ Some ls → AreDistinct ls × (ls ≡ ks ++ ys)
joined_some ks [] ls distinct is =
    let same : ks ≡ ls = cc in (subst AreDistinct same distinct, sym same ∙ sym (nothing_after ks))
joined_some ks (y ∷ ys) ls distinct is = joined_by ks y ys ls distinct (holds y ks) refl is (joined_some (ks ++ y ∷ []) ys ls)

-- a number that comes twice
pub record ComesTwice (ks : List ℕ) : Type 0 where
  pub number : ℕ
  pub first : ℕ
  pub second : ℕ
  pub earlier : first < second
  pub at_first : slice_get ks first ≡ Some number
  pub at_second : slice_get ks second ≡ Some number

not_joined_by : (ks : List ℕ) (y : ℕ) (ys : List ℕ) (b : Bool) → holds y ks ≡ b → cond b None (joined (ks ++ y ∷ []) ys) ≡ None
    → (joined (ks ++ y ∷ []) ys ≡ None → ComesTwice ((ks ++ y ∷ []) ++ ys)) → ComesTwice (ks ++ y ∷ ys)
not_joined_by ks y ys true here is go =
    let w = held_place y ks here in
    let last : slice_get (ks ++ y ∷ ys) (length ks + 0) ≡ Some y = placed_suffix ks (y ∷ ys) 0 in
    record {
      number = y;
      first = w.0;
      second = length ks + 0;
      earlier = (let within : w.0 < length ks = slice_get_within ks w.0 y w.1 in omega arith);
      at_first = placed_prefix ks (y ∷ ys) w.0 y w.1;
      at_second = last;
    }
not_joined_by ks y ys false here is go = subst ComesTwice (append_assoc ks (y ∷ []) ys) (go is)

not_joined : (ks ys : List ℕ) → joined ks ys ≡ None → ComesTwice (ks ++ ys)
not_joined ks [] is = let no : ⊥ = cc in absurd no
not_joined ks (y ∷ ys) is = not_joined_by ks y ys (holds y ks) refl is (not_joined (ks ++ y ∷ []) ys)

-- ---- members

abbrev declared_numbers : Member → List ℕ
declared_numbers m = numbers_from (first_declared m) (declared_breadth m.declared)

abbrev all_declared : List Member → List ℕ
all_declared [] = []
all_declared (m ∷ ms) = declared_numbers m ++ all_declared ms

declared_both : (ms ns : List Member) → all_declared (ms ++ ns) ≡ all_declared ms ++ all_declared ns
declared_both [] ns = refl
declared_both (m ∷ ms) ns =
    ap (λ (xs : List ℕ). declared_numbers m ++ xs) (declared_both ms ns)
    ∙ sym (append_assoc (declared_numbers m) (all_declared ms) (all_declared ns))

-- a type variable of a declared type is one of them, and back

breadth_is : (m : Member) (o : Option TypeExpr) (k x : ℕ) → m.declared ≡ o → slice_get (numbers_from (first_declared m) (declared_breadth o)) k ≡ Some x
    → IsDeclared m x
breadth_is m None k x is at_k = let no : ⊥ = cc in absurd no
breadth_is m (Some t) k x is at_k =
    let w = number_at (first_declared m) (breadth t) k x at_k in
    record { type = t; is_type = is; variable = k; below = w.0; place = w.1 }

number_declared : (m : Member) (k x : ℕ) → slice_get (declared_numbers m) k ≡ Some x → IsDeclared m x
number_declared m k x at_k = breadth_is m m.declared k x refl at_k

declared_number : (m : Member) (x : ℕ) → IsDeclared m x → (k : ℕ) × (slice_get (declared_numbers m) k ≡ Some x)
declared_number m x d = (
  d.variable,
  ap (λ (o : Option TypeExpr). slice_get (numbers_from (first_declared m) (declared_breadth o)) d.variable) d.is_type
      ∙ at_number (first_declared m) (breadth d.type) d.variable d.below ∙ ap Some (sym d.place),
)

-- of a group
group_number : (ms : List Member) (k x : ℕ) (m : Member) → slice_get ms k ≡ Some m → IsDeclared m x
    → (j : ℕ) × (slice_get (all_declared ms) j ≡ Some x)
group_number [] k x m at_k d = let no : ⊥ = cc in absurd no
group_number (n ∷ ms) zero x m at_k d =
    let same : n ≡ m = cc in
    let w = declared_number n x (subst (λ (o : Member). IsDeclared o x) (sym same) d) in
    (w.0, placed_prefix (declared_numbers n) (all_declared ms) w.0 x w.1)
group_number (n ∷ ms) (suc k) x m at_k d =
    let w = group_number ms k x m at_k d in
    (length (declared_numbers n) + w.0, placed_suffix (declared_numbers n) (all_declared ms) w.0 ∙ w.1)

number_of_group : (ms : List Member) (j x : ℕ) → slice_get (all_declared ms) j ≡ Some x → IsOfGroup ms x
number_of_group [] j x at_j = let no : ⊥ = cc in absurd no
number_of_group (m ∷ ms) j x at_j = elim (placed_either (declared_numbers m) (all_declared ms) j x at_j) [
  | inl here ↦ record { place = 0; member = m; is_member = refl; declared = number_declared m j x here }
  | inr w ↦
      let rest = number_of_group ms w.0 x w.2 in
      record { place = suc rest.place; member = rest.member; is_member = rest.is_member; declared = rest.declared }
]

-- ---- where it was computed that a group keeps to its types

-- what a member's variables became stands in nothing that it captured
pub record IsApart (σ : Substitution) (m : Member) : Type 0 where
  pub variables : List ℕ
  pub became : Becomes σ (declared_numbers m) variables
  pub none : some_meets σ variables (numbers_from m.first m.captured) ≡ false

nothing_in : (xs : List ℕ) → list_any (among []) xs ≡ false
nothing_in [] = refl
nothing_in (x ∷ xs) = nothing_in xs

nothing_meets : (σ : Substitution) (xs : List ℕ) → some_meets σ [] xs ≡ false
nothing_meets σ [] = refl
nothing_meets σ (x ∷ xs) = ap (λ (b : Bool). b || some_meets σ [] xs) (nothing_in (variables_in (σ x))) ∙ nothing_meets σ xs

pub record IsKept (σ : Substitution) (ks ls : List ℕ) (m : Member) : Type 0 where
  pub apart : IsApart σ m
  pub distinct : AreDistinct ls
  pub added : ls ≡ ks ++ apart.variables

abbrev rest_of : Substitution → List ℕ → Member → Option (List ℕ) → Option (List ℕ)
rest_of σ ks m o = joined_if σ ks m.first m.captured o

kept_by : (σ : Substitution) (ks ls ys : List ℕ) (m : Member) (b : Bool) → AreDistinct ks → Becomes σ (declared_numbers m) ys
    → some_meets σ ys (numbers_from m.first m.captured) ≡ b → cond b None (joined ks ys) ≡ Some ls → IsKept σ ks ls m
kept_by σ ks ls ys m true distinct became here is = let no : ⊥ = cc in absurd no
kept_by σ ks ls ys m false distinct became here is =
    let w = joined_some ks ys ls distinct is in
    record { apart = record { variables = ys; became = became; none = here }; distinct = w.0; added = w.1 }

kept_declared : (σ : Substitution) (ks ls : List ℕ) (m : Member) (t : TypeExpr) (o : Option (List ℕ)) → AreDistinct ks
    → m.declared ≡ Some t → became σ (numbers_from (first_declared m) (breadth t)) ≡ o → rest_of σ ks m o ≡ Some ls → IsKept σ ks ls m
kept_declared σ ks ls m t None distinct is here it = let no : ⊥ = cc in absurd no
kept_declared σ ks ls m t (Some ys) distinct is here it =
    kept_by σ ks ls ys m (some_meets σ ys (numbers_from m.first m.captured)) distinct
    (subst (λ (o : Option TypeExpr). Becomes σ (numbers_from (first_declared m) (declared_breadth o)) ys) (sym is)
    (became_some σ (numbers_from (first_declared m) (breadth t)) ys here))
    refl it

abbrev with_type : Substitution → List ℕ → Member → Option TypeExpr → Option (List ℕ)
with_type σ ks m None = Some ks
with_type σ ks m (Some t) = rest_of σ ks m (became σ (numbers_from (first_declared m) (breadth t)))

type_is : (σ : Substitution) (ks : List ℕ) (m : Member) (o : Option TypeExpr)
    → with_declared σ ks m.first m.arity m.captured o ≡ with_type σ ks m o
type_is σ ks m None = refl
type_is σ ks m (Some t) = refl

with_type_is : (σ : Substitution) (ks : List ℕ) (m : Member) (o : Option TypeExpr) → m.declared ≡ o → with_member σ ks m ≡ with_type σ ks m o
with_type_is σ ks m o is =
    ap (λ (d : Option TypeExpr). with_declared σ ks m.first m.arity m.captured d) is ∙ type_is σ ks m o

kept_member : (σ : Substitution) (ks ls : List ℕ) (m : Member) (o : Option TypeExpr) → AreDistinct ks → m.declared ≡ o
    → with_type σ ks m o ≡ Some ls → IsKept σ ks ls m
kept_member σ ks ls m None distinct is it =
    let same : ks ≡ ls = cc in
    record {
      apart = record {
        variables = [];
        became = subst (λ (o : Option TypeExpr). Becomes σ (numbers_from (first_declared m) (declared_breadth o)) []) (sym is) (becomes_none σ);
        none = nothing_meets σ (numbers_from m.first m.captured);
      };
      distinct = subst AreDistinct same distinct;
      added = sym same ∙ sym (nothing_after ks);
    }
kept_member σ ks ls m (Some t) distinct is it =
    kept_declared σ ks ls m t (became σ (numbers_from (first_declared m) (breadth t))) distinct is refl it

pub record AreKept (σ : Substitution) (ks ls : List ℕ) (ms : List Member) : Type 0 where
  pub variables : List ℕ
  pub became : Becomes σ (all_declared ms) variables
  pub distinct : AreDistinct ls
  pub added : ls ≡ ks ++ variables
  pub apart : (k : ℕ) (m : Member) → slice_get ms k ≡ Some m → IsApart σ m

apart_at : (σ : Substitution) (m : Member) (ms : List Member) → IsApart σ m → ((k : ℕ) (n : Member) → slice_get ms k ≡ Some n → IsApart σ n)
    → (k : ℕ) (n : Member) → slice_get (m ∷ ms) k ≡ Some n → IsApart σ n
apart_at σ m ms first rest zero n e = let same : m ≡ n = cc in subst (IsApart σ) same first
apart_at σ m ms first rest (suc k) n e = rest k n e

kept_first : (σ : Substitution) (ks ls : List ℕ) (m : Member) (ms : List Member) → AreDistinct ks → (o : Option (List ℕ)) → with_member σ ks m ≡ o
    → go_on (λ zs. with_members σ zs ms) o ≡ Some ls
    → ((zs : List ℕ) → AreDistinct zs → with_members σ zs ms ≡ Some ls → AreKept σ zs ls ms) → AreKept σ ks ls (m ∷ ms)
kept_first σ ks ls m ms distinct None here is go = let no : ⊥ = cc in absurd no
kept_first σ ks ls m ms distinct (Some zs) here is go =
    let one : IsKept σ ks zs m = kept_member σ ks zs m m.declared distinct refl (sym (with_type_is σ ks m m.declared refl) ∙ here) in
    let rest : AreKept σ zs ls ms = go zs one.distinct is in
    record {
      variables = one.apart.variables ++ rest.variables;
      became = becomes_both σ (declared_numbers m) one.apart.variables (all_declared ms) rest.variables one.apart.became rest.became;
      distinct = rest.distinct;
      added = rest.added ∙ ap (λ (xs : List ℕ). xs ++ rest.variables) one.added ∙ append_assoc ks one.apart.variables rest.variables;
      apart = apart_at σ m ms one.apart rest.apart;
    }

all_kept : (σ : Substitution) (ks ls : List ℕ) (ms : List Member) → AreDistinct ks → with_members σ ks ms ≡ Some ls → AreKept σ ks ls ms
all_kept σ ks ls [] distinct is =
    let same : ks ≡ ls = cc in
    record {
      variables = [];
      became = becomes_none σ;
      distinct = subst AreDistinct same distinct;
      added = sym same ∙ sym (nothing_after ks);
      apart = λ k m e. (let no : ⊥ = cc in absurd no);
    }
all_kept σ ks ls (m ∷ ms) distinct is =
    kept_first σ ks ls m ms distinct (with_member σ ks m) refl is (λ zs. all_kept σ zs ls ms)

-- a variable of a member's declared type stands in nothing that it captured
stands_apart : (σ : Substitution) (m : Member) (x y i : ℕ) → IsApart σ m → IsDeclared m x → σ x ≡ type.Variable y → i < m.captured
    → IsTrue (holds y (variables_in (σ (m.first + i)))) → ⊥
stands_apart σ m x y i apart d is below held =
    let n = declared_number m x d in
    let w = apart.became.each n.0 x n.1 in
    let same : w.0 ≡ y = (let e : type.Variable w.0 ≡ type.Variable y = sym w.2 ∙ is in cc) in
    let clear : meets apart.variables (σ (m.first + i)) ≡ false =
    any_false (λ z. meets apart.variables (σ z)) (numbers_from m.first m.captured) i (m.first + i) apart.none
    (at_number m.first m.captured i below) in
    let v = held_place y (variables_in (σ (m.first + i))) held in
    let no : among apart.variables y ≡ false = any_false (among apart.variables) (variables_in (σ (m.first + i))) v.0 y clear v.1 in
    let yes : among apart.variables y ≡ true =
    any_at (λ z. nat_eq z y) apart.variables n.0 w.0 w.1 (eq-eqb w.0 y same) in
    let none : ⊥ = cc in none

kept_keeps : (σ : Substitution) (ls : List ℕ) (ms : List Member) → AreKept σ [] ls ms → KeepsDeclared σ ms
kept_keeps σ ls ms kept = record {
  variable = λ x of_group.
      let n = group_number ms of_group.place x of_group.member of_group.is_member of_group.declared in
      let w = kept.became.each n.0 x n.1 in (w.0, w.2);
  distinct = λ x y left right same.
      let m = group_number ms left.place x left.member left.is_member left.declared in
      let n = group_number ms right.place y right.member right.is_member right.declared in
      let v = kept.became.each m.0 x m.1 in
      let w = kept.became.each n.0 y n.1 in
      let one : v.0 ≡ w.0 = (let e : type.Variable v.0 ≡ type.Variable w.0 = sym v.2 ∙ same ∙ w.2 in cc) in
      let first : slice_get ls m.0 ≡ Some w.0 = ap (λ (xs : List ℕ). slice_get xs m.0) kept.added ∙ v.1 ∙ ap Some one in
      let second : slice_get ls n.0 ≡ Some w.0 = ap (λ (xs : List ℕ). slice_get xs n.0) kept.added ∙ w.1 in
      same_place (all_declared ms) m.0 n.0 x y (kept.distinct m.0 n.0 w.0 first second) m.1 n.1;
  absent = λ k x y i m at_k d is below held. stands_apart σ m x y i (kept.apart k m at_k) d is below held;
}

-- ---- where it doesn't

-- numbers that rise
abbrev Rises : List ℕ → Type 0
Rises xs = (i j x y : ℕ) → i < j → slice_get xs i ≡ Some x → slice_get xs j ≡ Some y → x < y

numbers_rise : (first count : ℕ) → Rises (numbers_from first count)
numbers_rise first count i j x y lt at_i at_j =
    let a : x ≡ first + i = (number_at first count i x at_i).1 in
    let b : y ≡ first + j = (number_at first count j y at_j).1 in
    omega arith

both_rise : (xs ys : List ℕ) (bound : ℕ) → Rises xs → Rises ys → ((k x : ℕ) → slice_get xs k ≡ Some x → x < bound)
    → ((k y : ℕ) → slice_get ys k ≡ Some y → bound ≤ y) → Rises (xs ++ ys)
both_rise xs ys bound first second below above i j x y lt at_i at_j = elim (placed_either xs ys i x at_i) [
  | inl left ↦ elim (placed_either xs ys j y at_j) [
    | inl right ↦ first i j x y lt left right
    | inr w ↦
        let a : x < bound = below i x left in
        let b : bound ≤ y = above w.0 y w.2 in
        omega arith
  ]
  | inr v ↦ elim (placed_either xs ys j y at_j) [
    | inl right ↦
        let within : j < length xs = slice_get_within xs j y right in
        let here : i ≡ length xs + v.0 = v.1 in
        absurd (omega arith)
    | inr w ↦
        let here : i ≡ length xs + v.0 = v.1 in
        let there : j ≡ length xs + w.0 = w.1 in
        second v.0 w.0 x y (omega arith) v.2 w.2
  ]
]

members_above : (kernel : Kernel) (first : ℕ) (fs : List FunId) (k x : ℕ) → slice_get (all_declared (members_from kernel first fs)) k ≡ Some x
    → first ≤ x
members_above kernel first [] k x is = let no : ⊥ = cc in absurd no
members_above kernel first (f ∷ fs) k x is =
    elim (placed_either (declared_numbers (member kernel first f)) (all_declared (members_from kernel (end_of (member kernel first f)) fs)) k x is) [
      | inl here ↦
          let a : x ≡ first_declared (member kernel first f) + k =
          (number_at (first_declared (member kernel first f)) (declared_breadth (member kernel first f).declared) k x here).1 in
          omega arith
      | inr w ↦
          let a : end_of (member kernel first f) ≤ x = members_above kernel (end_of (member kernel first f)) fs w.0 x w.2 in
          omega arith
    ]

members_rise : (kernel : Kernel) (first : ℕ) (fs : List FunId) → Rises (all_declared (members_from kernel first fs))
members_rise kernel first [] i j x y lt at_i at_j = let no : ⊥ = cc in absurd no
members_rise kernel first (f ∷ fs) i j x y lt at_i at_j =
    both_rise (declared_numbers (member kernel first f)) (all_declared (members_from kernel (end_of (member kernel first f)) fs))
    (end_of (member kernel first f))
    (numbers_rise (first_declared (member kernel first f)) (declared_breadth (member kernel first f).declared))
    (members_rise kernel (end_of (member kernel first f)) fs)
    (λ k z e.
    let w = number_at (first_declared (member kernel first f)) (declared_breadth (member kernel first f).declared) k z e in
    let a : k < declared_breadth (member kernel first f).declared = w.0 in
    let b : z ≡ first_declared (member kernel first f) + k = w.1 in
    omega arith)
    (λ k z e. members_above kernel (end_of (member kernel first f)) fs k z e)
    i j x y lt at_i at_j

-- variables of which two become one
twice_refutes : (σ : Substitution) (all : List Member) (xs ys more : List ℕ) → KeepsDeclared σ all → Rises (all_declared all)
    → all_declared all ≡ xs ++ more → Becomes σ xs ys → ComesTwice ys → ⊥
twice_refutes σ all xs ys more keeps rises is became twice =
    let a = became_at σ xs ys twice.first twice.number became twice.at_first in
    let b = became_at σ xs ys twice.second twice.number became twice.at_second in
    let first : slice_get (all_declared all) twice.first ≡ Some a.0 =
    ap (λ (zs : List ℕ). slice_get zs twice.first) is ∙ placed_prefix xs more twice.first a.0 a.1 in
    let second : slice_get (all_declared all) twice.second ≡ Some b.0 =
    ap (λ (zs : List ℕ). slice_get zs twice.second) is ∙ placed_prefix xs more twice.second b.0 b.1 in
    let same : a.0 ≡ b.0 =
    keeps.distinct a.0 b.0 (number_of_group all twice.first a.0 first) (number_of_group all twice.second b.0 second) (a.2 ∙ sym b.2) in
    let less : a.0 < b.0 = rises twice.first twice.second a.0 b.0 twice.earlier first second in
    omega arith

-- a member whose variables stand in what it captured
meeting_refutes : (σ : Substitution) (all : List Member) (k : ℕ) (m : Member) (ys : List ℕ) → KeepsDeclared σ all → slice_get all k ≡ Some m
    → Becomes σ (declared_numbers m) ys → some_meets σ ys (numbers_from m.first m.captured) ≡ true → ⊥
meeting_refutes σ all k m ys keeps at_k became met =
    let p = any_true (λ z. meets ys (σ z)) (numbers_from m.first m.captured) met in
    let n = number_at m.first m.captured p.0 p.1 p.2 in
    let q = any_true (among ys) (variables_in (σ p.1)) p.3 in
    let r = among_place ys q.1 q.3 in
    let x = became_at σ (declared_numbers m) ys r.0 q.1 became r.1 in
    let held : holds q.1 (variables_in (σ p.1)) ≡ true =
    any_at (nat_eq q.1) (variables_in (σ p.1)) q.0 q.1 q.2 (eq-eqb q.1 q.1 refl) in
    keeps.absent k x.0 q.1 p.0 m at_k (number_declared m r.0 x.0 x.1) x.2 n.0
    (subst (λ (z : ℕ). holds q.1 (variables_in (σ z)) ≡ true) n.1 held)

not_variable : (t : TypeExpr) (y : ℕ) → variable_of t ≡ None → t ≡ type.Variable y → ⊥
not_variable t y none is = let e : None ≡ Some y = sym none ∙ ap variable_of is in let no : ⊥ = cc in no

placed_last : (done : List Member) (m : Member) (ms : List Member) → slice_get (done ++ m ∷ ms) (length done + 0) ≡ Some m
placed_last done m ms = placed_suffix done (m ∷ ms) 0

refuted_by : (σ : Substitution) (all done ms : List Member) (m : Member) (ks ys : List ℕ) (b : Bool) → KeepsDeclared σ all
    → Rises (all_declared all) → all ≡ done ++ m ∷ ms → Becomes σ (all_declared done) ks → Becomes σ (declared_numbers m) ys
    → some_meets σ ys (numbers_from m.first m.captured) ≡ b → cond b None (joined ks ys) ≡ None → ⊥
refuted_by σ all done ms m ks ys true keeps rises is before became here it =
    meeting_refutes σ all (length done + 0) m ys keeps
    (ap (λ (ns : List Member). slice_get ns (length done + 0)) is ∙ placed_last done m ms) became here
refuted_by σ all done ms m ks ys false keeps rises is before became here it =
    twice_refutes σ all (all_declared done ++ declared_numbers m) (ks ++ ys) (all_declared ms) keeps rises
    (ap all_declared is ∙ declared_both done (m ∷ ms) ∙ sym (append_assoc (all_declared done) (declared_numbers m) (all_declared ms)))
    (becomes_both σ (all_declared done) ks (declared_numbers m) ys before became) (not_joined ks ys it)

refuted_declared : (σ : Substitution) (all done ms : List Member) (m : Member) (ks : List ℕ) (t : TypeExpr) (o : Option (List ℕ))
    → KeepsDeclared σ all → Rises (all_declared all) → all ≡ done ++ m ∷ ms → Becomes σ (all_declared done) ks → m.declared ≡ Some t
    → became σ (numbers_from (first_declared m) (breadth t)) ≡ o → rest_of σ ks m o ≡ None → ⊥
refuted_declared σ all done ms m ks t None keeps rises is before declared here it =
    let w = not_became σ (numbers_from (first_declared m) (breadth t)) here in
    let d : IsDeclared m w.1 = breadth_is m (Some t) w.0 w.1 declared w.2 in
    let v = keeps.variable w.1 (record {
      place = length done + 0;
      member = m;
      is_member = ap (λ (ns : List Member). slice_get ns (length done + 0)) is ∙ placed_last done m ms;
      declared = d;
    }) in
    not_variable (σ w.1) v.0 w.3 v.1
refuted_declared σ all done ms m ks t (Some ys) keeps rises is before declared here it =
    refuted_by σ all done ms m ks ys (some_meets σ ys (numbers_from m.first m.captured)) keeps rises is before
    (subst (λ (o : Option TypeExpr). Becomes σ (numbers_from (first_declared m) (declared_breadth o)) ys) (sym declared)
    (became_some σ (numbers_from (first_declared m) (breadth t)) ys here))
    refl it

refuted_member : (σ : Substitution) (all done ms : List Member) (m : Member) (ks : List ℕ) (o : Option TypeExpr) → KeepsDeclared σ all
    → Rises (all_declared all) → all ≡ done ++ m ∷ ms → Becomes σ (all_declared done) ks → m.declared ≡ o → with_type σ ks m o ≡ None → ⊥
refuted_member σ all done ms m ks None keeps rises is before declared it = let no : ⊥ = cc in no
refuted_member σ all done ms m ks (Some t) keeps rises is before declared it =
    refuted_declared σ all done ms m ks t (became σ (numbers_from (first_declared m) (breadth t))) keeps rises is before declared refl it

refuted_first : (σ : Substitution) (all done : List Member) (m : Member) (ms : List Member) (ks : List ℕ) → AreDistinct ks → KeepsDeclared σ all
    → Rises (all_declared all) → all ≡ done ++ m ∷ ms → Becomes σ (all_declared done) ks → (o : Option (List ℕ)) → with_member σ ks m ≡ o
    → go_on (λ zs. with_members σ zs ms) o ≡ None
    → ((zs : List ℕ) → AreDistinct zs → KeepsDeclared σ all → Rises (all_declared all) → all ≡ (done ++ m ∷ []) ++ ms
    → Becomes σ (all_declared (done ++ m ∷ [])) zs → with_members σ zs ms ≡ None → ⊥) → ⊥
refuted_first σ all done m ms ks distinct keeps rises is before None here it go =
    refuted_member σ all done ms m ks m.declared keeps rises is before refl (sym (with_type_is σ ks m m.declared refl) ∙ here)
refuted_first σ all done m ms ks distinct keeps rises is before (Some zs) here it go =
    let one : IsKept σ ks zs m = kept_member σ ks zs m m.declared distinct refl (sym (with_type_is σ ks m m.declared refl) ∙ here) in
    let numbers : all_declared (done ++ m ∷ []) ≡ all_declared done ++ declared_numbers m =
    declared_both done (m ∷ []) ∙ ap (λ (xs : List ℕ). all_declared done ++ xs) (nothing_after (declared_numbers m)) in
    go zs one.distinct keeps rises (is ∙ sym (append_assoc done (m ∷ []) ms))
    (subst (λ (xs : List ℕ). Becomes σ xs zs) (sym numbers)
    (subst (Becomes σ (all_declared done ++ declared_numbers m)) (sym one.added)
    (becomes_both σ (all_declared done) ks (declared_numbers m) one.apart.variables before one.apart.became)))
    it

all_refuted : (σ : Substitution) (all done ms : List Member) (ks : List ℕ) → AreDistinct ks → KeepsDeclared σ all → Rises (all_declared all)
    → all ≡ done ++ ms → Becomes σ (all_declared done) ks → with_members σ ks ms ≡ None → ⊥
all_refuted σ all done [] ks distinct keeps rises is before it = let no : ⊥ = cc in no
all_refuted σ all done (m ∷ ms) ks distinct keeps rises is before it =
    refuted_first σ all done m ms ks distinct keeps rises is before (with_member σ ks m) refl it
    (λ zs. all_refuted σ all (done ++ m ∷ []) ms zs)

-- ---- the whole

none_distinct : AreDistinct []
none_distinct i j y at_i at_j = let no : ⊥ = cc in absurd no

pub group_keeps : (kernel : Kernel) (σ : Substitution) (group : List FunId) (kept : Bool) (keys : List ℕ)
    → Told kept keys (with_members σ [] (members kernel group)) → IsTrue kept ↔ KeepsDeclared σ (members kernel group)
unfolding members
group_keeps kernel σ group true keys told = (
  λ yes. kept_keeps σ keys (members_from kernel 0 group) (all_kept σ [] keys (members_from kernel 0 group) none_distinct told),
  λ keeps. refl,
)
group_keeps kernel σ group false keys told = (
  λ yes. (let no : ⊥ = cc in absurd no),
  λ keeps. absurd (all_refuted σ (members_from kernel 0 group) [] (members_from kernel 0 group) [] none_distinct keeps
      (members_rise kernel 0 group) refl (becomes_none σ) told),
)
