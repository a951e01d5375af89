-- Numbers of a range have at most 127 bits.
use Rattle.std.proofs.Common.{◌≡◌, ℕ, zero, suc, ◌+◌, ◌*◌, ◌^◌, ◌<◌, ◌≤◌, Bool, true, false, List, [], ◌∷◌, None, Some, Result, Ok, Err, length, refl, ap, sym, cond, arith, nat_eq, nat_le, nat_lt}
use Rattle.std.proofs.lemmas.Bool.{and_parts}
use Rattle.std.proofs.lemmas.Bool.Decides.{nat_tests}
use Rattle.cu_prooftext.specs.declared.ranges.Range.{Range}
use Rattle.cu_prooftext.specs.declared.ranges.Range.TheVariants as range
use Rattle.cu_prooftext.specs.Inside.RangeOf.{IsBounded, leads_in}
use Rattle.cu_prooftext.specs.Inside.Ranges.{leads_up, scalar}
use Rattle.cu_prooftext.specs.Inside.Readers.{next_number, word_at}
use Rattle.cu_prooftext.specs.Inside.Reading.{at_most, between}
use Rattle.cu_prooftext.proofs.RangeLaws.{leads_low}

-- a number that leads into a range is at most 2 ^ 127
pub leads_small : (r : Range) (n : ℕ) → IsBounded r → leads_in r n ≡ true → n ≤ 2 ^ 127
leads_small (range.UpTo most) n b h = grind (arith, nat_tests)
leads_small (range.FromOne most) n b h = let parts = and_parts (nat_le 1 n) (nat_le n most) h in grind (arith, nat_tests)
leads_small range.Scalars n b h = let low : n ≤ 0x10FFFF = grind (arith, nat_tests) in omega arith
leads_small (range.Above last) n b h =
    let parts = and_parts (nat_lt 0 n) (leads_up (suc (suc last)) last n n) h in
    let low = leads_low (suc (suc last)) last n n parts.1 in omega arith

not_allowed : (leads : ℕ → Bool) (n : ℕ) (t : Bool) → leads n ≡ t → (leads n ≡ true → ⊥) → cond t (Some n) None ≡ None
not_allowed leads n true h never = absurd (never h)
not_allowed leads n false h never = refl

-- nothing follows a number that is too great
pub none_leads : (r : Range) (n d : ℕ) → IsBounded r → 17014118346046923173168730371588410573 < n → next_number (leads_in r) (Some n) d ≡ None
none_leads r zero d b h = refl
none_leads r (suc n) d b h =
    not_allowed (leads_in r) (suc n * 10 + d) (leads_in r (suc n * 10 + d)) refl
    (λ led. let low = leads_small r (suc n * 10 + d) b led in let never : ⊥ = omega arith in never)

pub at_most_is : (most n : ℕ) → at_most most n ≡ true → n ≤ most
at_most_is most n h = grind (arith, nat_tests)

-- a word byte by byte
word_goes_at : (w : ℕ) (ws : List ℕ) (b : ℕ) (bs rest : List ℕ) (t : Bool)
    → (let m : Result (List ℕ) ℕ = cond t (Ok bs) (Err (length (b ∷ bs))) in m ≡ Ok rest) → (let m : Result (List ℕ) ℕ = cond t (word_at ws bs) (Err (length (b ∷ bs))) in m ≡ word_at ws rest)
word_goes_at w ws b bs rest true e = let same : bs ≡ rest = cc e in ap (word_at ws) same
word_goes_at w ws b bs rest false e = let never : ⊥ = cc e in absurd never

word_fails_at : (w : ℕ) (ws : List ℕ) (b : ℕ) (bs : List ℕ) (n : ℕ) (t : Bool)
    → (let m : Result (List ℕ) ℕ = cond t (Ok bs) (Err (length (b ∷ bs))) in m ≡ Err n) → (let m : Result (List ℕ) ℕ = cond t (word_at ws bs) (Err (length (b ∷ bs))) in m ≡ Err n)
word_fails_at w ws b bs n true e = let never : ⊥ = cc e in absurd never
word_fails_at w ws b bs n false e = e

pub word_goes : (w : ℕ) (ws bytes rest : List ℕ) → word_at (w ∷ []) bytes ≡ Ok rest → word_at (w ∷ ws) bytes ≡ word_at ws rest
word_goes w ws [] rest e = let never : ⊥ = cc e in absurd never
word_goes w ws (b ∷ bs) rest e = word_goes_at w ws b bs rest (nat_eq b w) e

pub word_fails : (w : ℕ) (ws bytes : List ℕ) (n : ℕ) → word_at (w ∷ []) bytes ≡ Err n → word_at (w ∷ ws) bytes ≡ Err n
word_fails w ws [] n e = let same : 0 ≡ n = cc e in ap (λ (k : ℕ). let m : Result (List ℕ) ℕ = Err k in m) same
word_fails w ws (b ∷ bs) n e = word_fails_at w ws b bs n (nat_eq b w) e

-- ---- digits of a number above one

no_more : (x high : ℕ) → high ≤ x → nat_lt x high ≡ false
no_more x high h = grind (arith, nat_tests)

-- where the interval ends below, the next one is looked at
pub up_next : (fuel x low high : ℕ) → 0 < fuel → x + 1 < fuel + high → high ≤ x
    → (f : ℕ) × (0 < f) × (x + 1 < f + (high * 10 + 9)) × (leads_up f x (low * 10) (high * 10 + 9) ≡ leads_up fuel x low high)
up_next zero x low high more enough h = let never : ⊥ = omega arith in absurd never
up_next (suc f) x low high more enough h = (
  f,
  omega arith,
  omega arith,
  sym (ap (λ (t : Bool). cond t (nat_le low 4294967295) (leads_up f x (low * 10) (high * 10 + 9))) (no_more x high h)),
)

-- where it ends above, its first number tells
pub up_end : (fuel x low high : ℕ) → 0 < fuel → x < high → leads_up fuel x low high ≡ nat_le low 4294967295
up_end zero x low high more h = let never : ⊥ = omega arith in absurd never
up_end (suc f) x low high more h =
    let above : nat_lt x high ≡ true = grind (arith, nat_tests) in
    ap (λ (t : Bool). cond t (nat_le low 4294967295) (leads_up f x (low * 10) (high * 10 + 9))) above

pub between_is : (most n : ℕ) → between most n ≡ true → (1 ≤ n) × (n ≤ most)
between_is most n h = let parts = and_parts (nat_le 1 n) (nat_le n most) h in (grind (arith, nat_tests), grind (arith, nat_tests))

pub scalar_is : (n : ℕ) → scalar n ≡ true → n ≤ 0x10FFFF
scalar_is n h = grind (arith, nat_tests)
