-- The ranges of the numbers of a text: scalars, and the numbers above one.
use Rattle.std.proofs.Common.{◌≡◌, ℕ, zero, suc, ◌+◌, ◌-◌, ◌*◌, ◌/◌, ◌%◌, ◌^◌, ◌<◌, ◌≤◌, Bool, true, false, List, [], ◌∷◌, ◌++◌, refl, ap, sym, ◌∙◌, append_assoc, append-nil, cond, arith, decimal, nat_le, nat_lt}
use Rattle.std.proofs.lemmas.Bool.{and_from, and_parts}
use Rattle.std.proofs.lemmas.Bool.Decides.{nat_tests}
use Rattle.std.proofs.lemmas.Fmt.{decimal_step_wide}
use Rattle.cu_prooftext.specs.Inside.Ranges.{above, leads_above, leads_scalar, leads_up, scalar}
use Rattle.cu_prooftext.proofs.NumberLaws.{Ranges, decimal_longer}

-- ---- numbers above one

-- every number from low to high begins with the digits of n
abbrev AllBegin : ℕ → ℕ → ℕ → Type 0
AllBegin n low high = (m : ℕ) → low ≤ m → m ≤ high → (more : List ℕ) × (decimal m ≡ decimal n ++ more)

all_begin_longer : (n low high : ℕ) → 0 < low → high * 10 + 9 < 10 ^ 64 → AllBegin n low high → AllBegin n (low * 10) (high * 10 + 9)
all_begin_longer n low high more bound all m a b =
    let q : low ≤ m / 10 = omega arith in
    let r : m / 10 ≤ high = omega arith in
    let one = all (m / 10) q r in (
      one.0 ++ ((48 + m % 10) ∷ []),
      decimal_step_wide m (omega arith) (omega arith) ∙ ap (λ (z : List ℕ). z ++ ((48 + m % 10) ∷ [])) one.1 ∙ append_assoc (decimal n) one.0 ((48 + m % 10) ∷ []),
    )

leads_low_at : (f x low high : ℕ) (t : Bool) → cond t (nat_le low 4294967295) (leads_up f x (low * 10) (high * 10 + 9)) ≡ true
    → (leads_up f x (low * 10) (high * 10 + 9) ≡ true → low * 10 ≤ 4294967295) → low ≤ 4294967295
leads_low_at f x low high true e further = grind (arith, nat_tests)
leads_low_at f x low high false e further = let less : low * 10 ≤ 4294967295 = further e in omega arith

pub leads_low : (f x low high : ℕ) → leads_up f x low high ≡ true → low ≤ 4294967295
leads_low zero x low high e = let never : ⊥ = cc e in absurd never
leads_low (suc f) x low high e = leads_low_at f x low high (nat_lt x high) e (leads_low f x (low * 10) (high * 10 + 9))

-- a number that begins with the digits of n, above x
abbrev Found : ℕ → ℕ → Type 0
Found x n = (m : ℕ) × (more : List ℕ) × (x < m) × (m ≤ 4294967295) × (decimal m ≡ decimal n ++ more)

found_at : (f x n low high : ℕ) (t : Bool) → nat_lt x high ≡ t → x < 4294967295 → 0 < low → low ≤ high → high ≤ 10 ^ 50 → AllBegin n low high
    → cond t (nat_le low 4294967295) (leads_up f x (low * 10) (high * 10 + 9)) ≡ true
    → (x < 4294967295 → leads_up f x (low * 10) (high * 10 + 9) ≡ true → AllBegin n (low * 10) (high * 10 + 9) → high ≤ x → Found x n) → Found x n
found_at f x n low high true h small more order bound all e further =
    let above : x < high = grind (arith, nat_tests) in
    let fits : low ≤ 4294967295 = grind (arith, nat_tests) in
    elim (nat_lt x low) as (λ (t : Bool). nat_lt x low ≡ t → Found x n) [
      | true ↦ λ k. let one = all low (omega arith) order in (low, one.0, grind (arith, nat_tests), fits, one.1)
      | false ↦ λ k.
          let below : low ≤ x = grind (arith, nat_tests) in
          let one = all (x + 1) (omega arith) (omega arith) in (x + 1, one.0, omega arith, omega arith, one.1)
    ] refl
found_at f x n low high false h small more order bound all e further =
    let under : high ≤ x = grind (arith, nat_tests) in
    further small e (all_begin_longer n low high more (omega arith) all) under

found : (f x n low high : ℕ) → x < 4294967295 → 0 < low → low ≤ high → high ≤ 10 ^ 50 → AllBegin n low high → leads_up f x low high ≡ true → Found x n
found zero x n low high small more order bound all e = let never : ⊥ = cc e in absurd never
found (suc f) x n low high small more order bound all e =
    found_at f x n low high (nat_lt x high) refl small more order bound all e
    (λ s led longer under. found f x n (low * 10) (high * 10 + 9) s (omega arith) (omega arith) (omega arith) longer led)

-- with fuel enough, how much doesn't matter; and a wider interval leads where a narrower one does
wider_at : (f g x low high less more : ℕ) (t u : Bool) → nat_lt x high ≡ t → nat_lt x more ≡ u → less ≤ low → high ≤ more
    → cond t (nat_le low 4294967295) (leads_up f x (low * 10) (high * 10 + 9)) ≡ true
    → (leads_up f x (low * 10) (high * 10 + 9) ≡ true → low * 10 ≤ 4294967295)
    → (leads_up f x (low * 10) (high * 10 + 9) ≡ true → more ≤ x → leads_up g x (less * 10) (more * 10 + 9) ≡ true)
    → cond u (nat_le less 4294967295) (leads_up g x (less * 10) (more * 10 + 9)) ≡ true
wider_at f g x low high less more true true h k a b e lows further = grind (arith, nat_tests)
wider_at f g x low high less more true false h k a b e lows further = let never : ⊥ = grind (arith, nat_tests) in absurd never
wider_at f g x low high less more false true h k a b e lows further = let fits : low * 10 ≤ 4294967295 = lows e in grind (arith, nat_tests)
wider_at f g x low high less more false false h k a b e lows further = further e (grind (arith, nat_tests))

wider : (f g x low high less more : ℕ) → less ≤ low → high ≤ more → 0 < g → x + 1 < g + more → leads_up f x low high ≡ true → leads_up g x less more ≡ true
wider zero g x low high less more a b p fuel e = let never : ⊥ = cc e in absurd never
wider (suc f) zero x low high less more a b p fuel e = let never : ⊥ = omega arith in absurd never
wider (suc f) (suc g) x low high less more a b p fuel e =
    wider_at f g x low high less more (nat_lt x high) (nat_lt x more) refl refl a b e (leads_low f x (low * 10) (high * 10 + 9))
    (λ led under. wider f g x (low * 10) (high * 10 + 9) (less * 10) (more * 10 + 9) (omega arith) (omega arith) (omega arith) (omega arith) led)

shorter_at : (x n d : ℕ) (t : Bool) → nat_lt x n ≡ t → n * 10 + d ≤ 4294967295 → d < 10 → leads_up (suc (suc x)) x (n * 10 + d) (n * 10 + d) ≡ true
    → cond t (nat_le n 4294967295) (leads_up (suc x) x (n * 10) (n * 10 + 9)) ≡ true
shorter_at x n d true h low small e = grind (arith, nat_tests)
shorter_at x n d false h low small e =
    wider (suc (suc x)) (suc x) x (n * 10 + d) (n * 10 + d) (n * 10) (n * 10 + 9) (omega arith) (omega arith) (omega arith) (omega arith) e

above_short : (x n d : ℕ) → 0 < n → d < 10 → leads_above x (n * 10 + d) ≡ true → leads_above x n ≡ true
above_short x n d more small h =
    let parts = and_parts (nat_lt 0 (n * 10 + d)) (leads_up (suc (suc x)) x (n * 10 + d) (n * 10 + d)) h in
    let low = leads_low (suc (suc x)) x (n * 10 + d) (n * 10 + d) parts.1 in
    and_from (nat_lt 0 n) (leads_up (suc (suc x)) x n n) (grind (arith, nat_tests)) (shorter_at x n d (nat_lt x n) refl low small parts.1)

above_whole : (x n : ℕ) → above x n ≡ true → leads_above x n ≡ true
above_whole x n h =
    let parts = and_parts (nat_lt x n) (nat_le n 4294967295) h in
    and_from (nat_lt 0 n) (leads_up (suc (suc x)) x n n) (grind (arith, nat_tests))
    (ap (λ (t : Bool). cond t (nat_le n 4294967295) (leads_up (suc x) x (n * 10) (n * 10 + 9))) parts.0 ∙ parts.1)

itself_begins : (n : ℕ) → AllBegin n n n
itself_begins n m a b = let same : m ≡ n = omega arith in ([], ap decimal same ∙ sym (append-nil (decimal n)))

above_some : (x n : ℕ) → x < 4294967295 → leads_above x n ≡ true → (m : ℕ) × (more : List ℕ) × (above x m ≡ true) × (decimal m ≡ decimal n ++ more)
above_some x n small h =
    let parts = and_parts (nat_lt 0 n) (leads_up (suc (suc x)) x n n) h in
    let low = leads_low (suc (suc x)) x n n parts.1 in
    let positive : 0 < n = grind (arith, nat_tests) in
    let one = found (suc (suc x)) x n n n small positive (omega arith) (omega arith) (itself_begins n) parts.1 in
    (one.0, one.1, and_from (nat_lt x one.0) (nat_le one.0 4294967295) (grind (arith, nat_tests, one.2)) (grind (arith, nat_tests, one.3)), one.4)

-- the numbers of 32 bits above one
pub above_range : (x : ℕ) → x < 4294967295 → Ranges (leads_above x) (above x)
above_range x small = record {
  short = above_short x;
  whole = above_whole x;
  some = λ n h. above_some x n small h;
  small = λ n h.
      let parts = and_parts (nat_lt 0 n) (leads_up (suc (suc x)) x n n) h in
      let low = leads_low (suc (suc x)) x n n parts.1 in omega arith;
  any = 4294967295;
  any_fits = and_from (nat_lt x 4294967295) (nat_le 4294967295 4294967295) (grind (arith, nat_tests)) refl;
}

-- ---- scalars

scalar_some_at : (n : ℕ) (t : Bool) → scalar n ≡ t → n ≤ 0x10FFFF → (m : ℕ) × (more : List ℕ) × (scalar m ≡ true) × (decimal m ≡ decimal n ++ more)
scalar_some_at n true h low = (n, [], h, sym (append-nil (decimal n)))
scalar_some_at n false h low =
    let from : 0xD800 ≤ n = grind (arith, nat_tests) in
    let to : n < 0xE000 = grind (arith, nat_tests) in
    (n * 10 + 0, (48 + 0) ∷ [], grind (arith, nat_tests), decimal_longer n 0 (omega arith) (omega arith) (omega arith))

-- the scalars
pub scalar_range : Ranges leads_scalar scalar
scalar_range = record {
  short = λ n d more small h. grind (arith, nat_tests);
  whole = λ n h. grind (arith, nat_tests);
  some = λ n h. scalar_some_at n (scalar n) refl (grind (arith, nat_tests));
  small = λ n h. let low : n ≤ 0x10FFFF = grind (arith, nat_tests) in omega arith;
  any = 0;
  any_fits = refl;
}
