-- Laws on numbers: what is read of a number in decimal is what is written of it.
use Rattle.std.proofs.Common.{◌≡◌, ℕ, suc, ◌+◌, ◌-◌, ◌*◌, ◌/◌, ◌%◌, ◌^◌, ◌≤◌, ◌<◌, Bool, true, false, ◌&&◌, List, [], ◌∷◌, ◌++◌, Ok, Err, decimal, if◌then◌else◌, length, nat_le, refl, sym, ap, subst, ◌∙◌, arith, append_assoc, append-nil, ne_eqb, leb-true, le-leb}
use Rattle.std.proofs.lemmas.Fmt.{decimal_by_steps_wide, decimal_step_wide}
use Rattle.cu_flatread.specs.Inside.Numbers.{at_digit, digits_at, is_digit, positive_at}
use Rattle.cu_flatread.specs.Inside.Words.{Read}

-- what is read, as a result
abbrev pub given : {A : Type 0} → A → List ℕ → Read A
given x rest = Ok (x, rest)

pub given_is : {A : Type 0} (x y : A) (r s : List ℕ) → given x r ≡ given y s → (x ≡ y) × (r ≡ s)
given_is {A} x y r s e =
    let p : A × List ℕ = (x, r) in
    let q : A × List ℕ = (y, s) in
    let same : p ≡ q = cc in
    (ap (λ (z : A × List ℕ). z.0) same, ap (λ (z : A × List ℕ). z.1) same)

pub and_true : (x y : Bool) → (x && y) ≡ true → (x ≡ true) × (y ≡ true)
and_true true y e = (refl, e)
and_true false y e = let no : ⊥ = cc in absurd no

pub true_and : (x y : Bool) → x ≡ true → y ≡ true → (x && y) ≡ true
true_and true y e f = f
true_and false y e f = let no : ⊥ = cc in absurd no

pub digit_bounds : (b : ℕ) → is_digit b ≡ true → (48 ≤ b) × (b ≤ 57)
digit_bounds b e =
    let both = and_true (nat_le 48 b) (nat_le b 57) e in
    (leb-true 48 b both.0, leb-true b 57 both.1)

pub digit_from : (b : ℕ) → 48 ≤ b → b ≤ 57 → is_digit b ≡ true
digit_from b low high = true_and (nat_le 48 b) (nat_le b 57) (le-leb 48 b low) (le-leb b 57 high)

-- one more digit
pub next_digit : (v b : ℕ) → 0 < v → 48 ≤ b → b ≤ 57 → v * 10 + (b - 48) < 10 ^ 64
    → decimal (v * 10 + (b - 48)) ≡ decimal v ++ b ∷ []
next_digit v b some low high small =
    let m : ℕ = v * 10 + (b - 48) in
    let front : m / 10 ≡ v = omega arith in
    let end : 48 + m % 10 ≡ b = omega arith in
    decimal_step_wide m (omega arith) small ∙ (λ i. decimal (front i) ++ (end i ∷ []))

-- the digits that were read after a number, up to what is no digit
pub record Digits (most v n : ℕ) (bytes rest : List ℕ) : Type 0 where
  pub more : List ℕ
  pub whole : bytes ≡ more ++ rest
  pub spelled : decimal n ≡ decimal v ++ more
  pub fits : n ≤ most
  pub ends : at_digit rest ≡ false

digits_case : (t u : Bool) (most v b : ℕ) (bytes rest : List ℕ) (n : ℕ) (read : Read ℕ)
    → is_digit b ≡ t → nat_le (v * 10 + (b - 48)) most ≡ u → 0 < v → v ≤ most → most < 10 ^ 64
    → (read ≡ given n rest → v * 10 + (b - 48) ≤ most
    → Digits most (v * 10 + (b - 48)) n bytes rest)
    → (if t then (if u then read else Err (suc (length bytes))) else given v (b ∷ bytes))
    ≡ given n rest → Digits most v n (b ∷ bytes) rest
digits_case true true most v b bytes rest n read digit fit some fits small next e =
    let within = leb-true (v * 10 + (b - 48)) most fit in
    let bounds = digit_bounds b digit in
    let d = next e within in
    record {
      more = b ∷ d.more;
      whole = ap (λ x. b ∷ x) d.whole;
      spelled =
          d.spelled
          ∙ ap (λ x. x ++ d.more) (next_digit v b some bounds.0 bounds.1 (omega (arith, within)))
          ∙ append_assoc (decimal v) (b ∷ []) d.more;
      fits = d.fits;
      ends = d.ends;
    }
digits_case true false most v b bytes rest n read digit fit some fits small next e =
    let no : ⊥ = cc in absurd no
digits_case false u most v b bytes rest n read digit fit some fits small next e =
    let same = given_is v n (b ∷ bytes) rest e in
    record {
      more = [];
      whole = same.1;
      spelled = ap decimal (sym same.0) ∙ sym (append-nil (decimal v));
      fits = omega (arith, same.0);
      ends = subst (λ (x : List ℕ). at_digit x ≡ false) same.1 digit;
    }

pub digits_sound : (most v : ℕ) (bytes rest : List ℕ) (n : ℕ) → 0 < v → v ≤ most → most < 10 ^ 64
    → digits_at most v bytes ≡ given n rest → Digits most v n bytes rest
unfolding digits_at
digits_sound most v [] rest n some fits small e =
    let same = given_is v n [] rest e in
    record {
      more = [];
      whole = same.1;
      spelled = ap decimal (sym same.0) ∙ sym (append-nil (decimal v));
      fits = omega (arith, same.0);
      ends = subst (λ (x : List ℕ). at_digit x ≡ false) same.1 refl;
    }
digits_sound most v (b ∷ bytes) rest n some fits small e =
    digits_case (is_digit b) (nat_le (v * 10 + (b - 48)) most) most v b bytes rest n
    (digits_at most (v * 10 + (b - 48)) bytes) refl refl some fits small
    (λ read within. digits_sound most (v * 10 + (b - 48)) bytes rest n (omega arith) within small read)
    e

-- what was written of a number from 1 on is read again, and then what follows as further digits
pub positive_again : (most n : ℕ) → 0 < n → n ≤ most → most < 10 ^ 64 → (rest : List ℕ)
    → positive_at most (decimal n ++ rest) ≡ digits_at most n rest
unfolding positive_at digits_at
positive_again most n some fits small =
    decimal_by_steps_wide
    (λ m ds. 0 < m → m ≤ most → (rest : List ℕ) → positive_at most (ds ++ rest) ≡ digits_at most m rest)
    one more n (omega arith) some fits
  where
    one : (m : ℕ) → m < 10 → 0 < m → m ≤ most → (rest : List ℕ)
        → positive_at most ((48 + m) ∷ rest) ≡ digits_at most m rest
    one m low some fits rest =
        let back : 48 + m - 48 ≡ m = omega arith in
        rw (digit_from (48 + m) (omega arith) (omega arith), ne_eqb (48 + m) 48 (λ e. omega (arith, e)), back) refl

    more : (m : ℕ) (ds : List ℕ) → 10 ≤ m
        → (0 < m / 10 → m / 10 ≤ most → (rest : List ℕ) → positive_at most (ds ++ rest) ≡ digits_at most (m / 10) rest)
        → 0 < m → m ≤ most → (rest : List ℕ)
        → positive_at most ((ds ++ (48 + m % 10) ∷ []) ++ rest) ≡ digits_at most m rest
    more m ds large before some fits rest =
        let c : ℕ = 48 + m % 10 in
        let value : m / 10 * 10 + (c - 48) ≡ m = omega arith in
        ap (positive_at most) (append_assoc ds (c ∷ []) rest)
        ∙ before (omega arith) (omega arith) (c ∷ rest)
        ∙ rw (digit_from c (omega arith) (omega arith), value, le-leb m most fits) refl
