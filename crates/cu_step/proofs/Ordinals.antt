-- The numbers of variables in the order in which they were met.
use Rattle.std.proofs.Common.{◌≡◌, ℕ, zero, suc, ◌+◌, Bool, true, false, ◌||◌, List, [], ◌∷◌, ◌++◌, refl, ap, sym, ◌∙◌, if◌then◌else◌, length, nat_eq, arith, eq-eqb, append-nil, cond, not}
use Rattle.std.specs.List.{position_or_len}
use Rattle.indexmap.specs.IndexSet.{insert_key}
use Rattle.cu_machine.specs.Places.{holds, joined}
use Rattle.cu_machine.specs.Spell.{ordinal}

-- a number further on
abbrev further : ℕ → ℕ
further n = elim n [ zero ↦ 0 | suc k ↦ suc k + 1 ]

-- ---- one variable more

same_by : (b : Bool) (m n : ℕ) → (b ≡ false → m ≡ n) → (if b then 1 else further m) ≡ (if b then 1 else further n)
same_by true m n same = refl
same_by false m n same = ap further (same refl)

or_rest : (a b : Bool) → (a || b) ≡ true → a ≡ false → b ≡ true
or_rest true b so is_not = let never : ⊥ = cc in absurd never
or_rest false b so is_not = so

-- variables that come later change no number
pub ordinal_later : (xs ys : List ℕ) (x : ℕ) → holds xs x ≡ true → ordinal (xs ++ ys) x ≡ ordinal xs x
ordinal_later [] ys x held = let no : ⊥ = cc in absurd no
ordinal_later (y ∷ xs) ys x held =
    same_by (nat_eq x y) (ordinal (xs ++ ys) x) (ordinal xs x) (λ differs. ordinal_later xs ys x (or_rest (nat_eq x y) (holds xs x) held differs))

-- another variable at the end changes no number
ordinal_other : (xs : List ℕ) (y x : ℕ) → nat_eq x y ≡ false → ordinal (xs ++ y ∷ []) x ≡ ordinal xs x
ordinal_other [] y x differs = ap (λ b. if b then 1 else 0) differs
ordinal_other (z ∷ xs) y x differs =
    same_by (nat_eq x z) (ordinal (xs ++ y ∷ []) x) (ordinal xs x) (λ no. ordinal_other xs y x differs)

new_by : (b : Bool) (m n : ℕ) → b ≡ false → m ≡ n + 1 → (if b then 1 else further m) ≡ suc n + 1
new_by true m n is_not is = let never : ⊥ = cc in absurd never
new_by false zero n is_not is = let never : ⊥ = omega arith in absurd never
new_by false (suc m) n is_not is = omega arith

or_neither : (a b : Bool) → (a || b) ≡ false → (a ≡ false) × (b ≡ false)
or_neither true b is_not = let never : ⊥ = cc in absurd never
or_neither false b is_not = (refl, is_not)

ordinal_new : (xs : List ℕ) (x : ℕ) → holds xs x ≡ false → ordinal (xs ++ x ∷ []) x ≡ length xs + 1
ordinal_new [] x absent = ap (λ b. if b then 1 else 0) (eq-eqb x x refl)
ordinal_new (y ∷ xs) x absent =
    let both = or_neither (nat_eq x y) (holds xs x) absent in
    new_by (nat_eq x y) (ordinal (xs ++ x ∷ []) x) (length xs) both.0 (ordinal_new xs x both.1)

stepped : (m n : ℕ) → m ≡ n + 1 → further m ≡ (1 + n) + 1
stepped zero n is = let never : ⊥ = omega arith in absurd never
stepped (suc m) n is = omega arith

held_place : (b : Bool) (m n : ℕ) → (b ≡ false → m ≡ n + 1) → (if b then 1 else further m) ≡ cond (not b) (1 + n) 0 + 1
held_place true m n is = refl
held_place false m n is = stepped m n (is refl)

-- a variable that was met has the number of its place
ordinal_held : (xs : List ℕ) (x : ℕ) → holds xs x ≡ true → ordinal xs x ≡ position_or_len (nat_eq x) xs + 1
ordinal_held [] x held = let never : ⊥ = cc in absurd never
ordinal_held (y ∷ xs) x held =
    held_place (nat_eq x y) (ordinal xs x) (position_or_len (nat_eq x) xs)
    (λ differs. ordinal_held xs x (or_rest (nat_eq x y) (holds xs x) held differs))

-- one that wasn't has no place yet
place_absent : (xs : List ℕ) (x : ℕ) → holds xs x ≡ false → position_or_len (nat_eq x) xs ≡ length xs
place_absent [] x absent = refl
place_absent (y ∷ xs) x absent =
    let both = or_neither (nat_eq x y) (holds xs x) absent in
    let rest = place_absent xs x both.1 in
    ap (λ b. cond (not b) (1 + position_or_len (nat_eq x) xs) 0) both.0 ∙ omega arith

-- ---- a set that keeps the order of insertion

pub number_inserted : (xs after : List ℕ) (x index : ℕ) → after ≡ insert_key nat_eq xs x → index ≡ position_or_len (nat_eq x) xs → index + 1 ≡ ordinal after x
number_inserted xs after x index inserted at = go (holds xs x) refl
  where
    go : (b : Bool) → holds xs x ≡ b → index + 1 ≡ ordinal after x
    go true held =
        ap (λ k. k + 1) at ∙ sym (ordinal_held xs x held) ∙ ap (λ ys. ordinal ys x) (sym (inserted ∙ ap (λ b. if b then xs else xs ++ x ∷ []) held))
    go false absent =
        ap (λ k. k + 1) (at ∙ place_absent xs x absent) ∙ sym (ordinal_new xs x absent)
        ∙ ap (λ ys. ordinal ys x) (sym (inserted ∙ ap (λ b. if b then xs else xs ++ x ∷ []) absent))

pub inserted_joins : (xs : List ℕ) (x : ℕ) → insert_key nat_eq xs x ≡ joined xs (x ∷ [])
inserted_joins xs x = go (holds xs x)
  where
    go : (b : Bool) → (if b then xs else xs ++ x ∷ []) ≡ xs ++ cond (not b) (x ∷ []) []
    go true = sym (append-nil xs)
    go false = refl

pub joins_inserted : (xs after : List ℕ) (x : ℕ) → after ≡ insert_key nat_eq xs x → after ≡ joined xs (x ∷ [])
joins_inserted xs after x inserted = inserted ∙ inserted_joins xs x

pub ruleset numberings = (number_inserted, joins_inserted)
