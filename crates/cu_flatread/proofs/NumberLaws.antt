-- What is said of the readers of numbers.
use Rattle.std.proofs.Common.{◌≡◌, ℕ, zero, suc, ◌+◌, ◌-◌, ◌*◌, ◌≤◌, ◌<◌, ◌^◌, Bool, true, false, ◌&&◌, not, List, [], ◌∷◌, ◌++◌, Err, codes, decimal, if◌then◌else◌, length, nat_eq, nat_le, refl, sym, ap, ◌∙◌, ◌⊎◌, inl, inr, arith, append_assoc, append-nil, eqb-true, leb-true}
use Rattle.std.proofs.lemmas.Bool.{cases_lt}
use Rattle.std.proofs.lemmas.Fmt.{decimal_digit}
use Rattle.cu_flatread.proofs.BranchLaws.{either_reads}
use Rattle.cu_flatread.proofs.DecimalLemmas.{digit_bounds, given, given_is, next_digit, positive_again}
use Rattle.cu_flatread.proofs.ReaderLaws.{Ends, Reader, Reads, Stopped, Took, no_digit, same_reads, word_reads}
use Rattle.cu_flatread.proofs.SoundLemmas.{positive_sound}
use Rattle.cu_flatread.specs.Inside.Numbers.{at_digit, decimal_at, digits_at, is_digit, positive_at}
use Rattle.cu_flatread.specs.Inside.Words.{Read, ◌>>=◌, after_word, is_at}

not_true : (t : Bool) → not t ≡ true → t ≡ false
not_true true e = let never : ⊥ = cc in absurd never
not_true false e = refl

true_not : (t : Bool) → t ≡ false → not t ≡ true
true_not true e = let never : ⊥ = cc in absurd never
true_not false e = refl

no_digit_at : (bytes : List ℕ) → Ends no_digit bytes → at_digit bytes ≡ false
no_digit_at [] e = refl
no_digit_at (b ∷ bytes) e = not_true (is_digit b) e

-- what isn't at a digit ends there, and so does what begins with the same byte
ends_at : (bytes : List ℕ) → at_digit bytes ≡ false → Ends no_digit bytes
ends_at [] e = tt
ends_at (b ∷ bytes) e = true_not (is_digit b) e

still_ends : (rest : List ℕ) (b : ℕ) (bs others : List ℕ) → at_digit rest ≡ false
    → rest ≡ b ∷ bs → Ends no_digit (b ∷ others)
still_ends rest b bs others ends i =
    let same : at_digit (b ∷ bs) ≡ false = ap at_digit (sym i) ∙ ends in
    true_not (is_digit b) same

-- ---- digits after a number

pub digits_end : (most n : ℕ) (rest : List ℕ) → Ends no_digit rest
    → digits_at most n rest ≡ given n rest
unfolding digits_at
digits_end most n [] e = refl
digits_end most n (b ∷ bs) e = rw (not_true (is_digit b) e) refl

digits_more_at : (t u : Bool) (most v b : ℕ) (bytes rest : List ℕ) (n : ℕ) (read : Read ℕ)
    → (read ≡ given n rest → v * 10 + (b - 48) ≤ n)
    → (if t then (if u then read else Err (suc (length bytes))) else given v (b ∷ bytes))
    ≡ given n rest → v ≤ n
digits_more_at true true most v b bytes rest n read more e = omega (arith, more e)
digits_more_at true false most v b bytes rest n read more e = let never : ⊥ = cc in absurd never
digits_more_at false u most v b bytes rest n read more e =
    omega (arith, (given_is v n (b ∷ bytes) rest e).0)

digits_more : (most v : ℕ) (bytes rest : List ℕ) (n : ℕ) → digits_at most v bytes ≡ given n rest
    → v ≤ n
unfolding digits_at
digits_more most v [] rest n e = omega (arith, (given_is v n [] rest e).0)
digits_more most v (b ∷ bytes) rest n e =
    digits_more_at (is_digit b) (nat_le (v * 10 + (b - 48)) most) most v b bytes rest n
    (digits_at most (v * 10 + (b - 48)) bytes)
    (λ inner. digits_more most (v * 10 + (b - 48)) bytes rest n inner) e

-- where no further digit fits
record DigitsStop (most v : ℕ) (bytes : List ℕ) (n : ℕ) : Type 0 where
  front : List ℕ
  back : List ℕ
  splits : bytes ≡ front ++ back
  left : length back ≡ n
  whole : ℕ
  some : 0 < whole
  fits : whole ≤ most
  begun : decimal whole ≡ decimal v ++ front
  wrong : (b : ℕ) (bs others : List ℕ) → back ≡ b ∷ bs
      → digits_at most v (front ++ b ∷ others) ≡ Err (length (b ∷ others))

-- what is read of digits of which the first is there, by whether it is a digit that fits
step_is : (most v b : ℕ) (bytes : List ℕ) (t u : Bool) → is_digit b ≡ t
    → nat_le (v * 10 + (b - 48)) most ≡ u
    → digits_at most v (b ∷ bytes)
    ≡ (if t then (if u then digits_at most (v * 10 + (b - 48)) bytes
    else Err (suc (length bytes))) else given v (b ∷ bytes))
unfolding digits_at
step_is most v b bytes t u digit fit =
    ap (λ (x : Bool). if x then (if nat_le (v * 10 + (b - 48)) most
    then digits_at most (v * 10 + (b - 48)) bytes else Err (suc (length bytes)))
    else given v (b ∷ bytes)) digit
    ∙ ap (λ (y : Bool). if t then (if y then digits_at most (v * 10 + (b - 48)) bytes
    else Err (suc (length bytes))) else given v (b ∷ bytes)) fit

digits_stop_at : (most v b : ℕ) (bytes : List ℕ) (n : ℕ) (t u : Bool) → 0 < v → v ≤ most
    → most < 10 ^ 64 → is_digit b ≡ t → nat_le (v * 10 + (b - 48)) most ≡ u
    → ((v2 : ℕ) → 0 < v2 → v2 ≤ most → digits_at most v2 bytes ≡ Err n
    → DigitsStop most v2 bytes n)
    → (if t then (if u then digits_at most (v * 10 + (b - 48)) bytes
    else Err (suc (length bytes))) else given v (b ∷ bytes)) ≡ Err n
    → DigitsStop most v (b ∷ bytes) n
digits_stop_at most v b bytes n true true some fits small digit fit further e =
    let within = leb-true (v * 10 + (b - 48)) most fit in
    let bounds = digit_bounds b digit in
    let st = further (v * 10 + (b - 48)) (omega (arith, some)) within e in
    record {
      front = b ∷ st.front;
      back = st.back;
      splits = ap (λ x. b ∷ x) st.splits;
      left = st.left;
      whole = st.whole;
      some = st.some;
      fits = st.fits;
      begun =
          st.begun
          ∙ ap (λ x. x ++ st.front)
          (next_digit v b some bounds.0 bounds.1 (omega (arith, within, small)))
          ∙ append_assoc (decimal v) (b ∷ []) st.front;
      wrong = λ c cs others i.
          step_is most v b (st.front ++ c ∷ others) true true digit fit
          ∙ st.wrong c cs others i;
    }
digits_stop_at most v b bytes n true false some fits small digit fit further e =
    let left : suc (length bytes) ≡ n = cc in
    record {
      front = [];
      back = b ∷ bytes;
      splits = refl;
      left = left;
      whole = v;
      some = some;
      fits = fits;
      begun = sym (append-nil (decimal v));
      wrong = λ c cs others i.
          let same : b ≡ c = cc i in
          ap (λ z. digits_at most v (z ∷ others)) (sym same)
          ∙ step_is most v b others true false digit fit;
    }
digits_stop_at most v b bytes n false u some fits small digit fit further e =
    let never : ⊥ = cc in absurd never

digits_stop : (most v : ℕ) (bytes : List ℕ) (n : ℕ) → 0 < v → v ≤ most → most < 10 ^ 64
    → digits_at most v bytes ≡ Err n → DigitsStop most v bytes n
digits_stop most v [] n some fits small e =
    let no = sym (digits_end most v [] tt) ∙ e in
    let never : ⊥ = cc in absurd never
digits_stop most v (b ∷ bytes) n some fits small e =
    digits_stop_at most v b bytes n (is_digit b) (nat_le (v * 10 + (b - 48)) most) some fits small
    refl refl (λ v2 s f. digits_stop most v2 bytes n s f small)
    (sym (step_is most v b bytes (is_digit b) (nat_le (v * 10 + (b - 48)) most) refl refl) ∙ e)

-- ---- numbers from 1 on

abbrev pub Positive : ℕ → ℕ → Type 0
Positive most n = (0 < n) × (n ≤ most)

pub positive_back : (most n : ℕ) (rest : List ℕ) → most < 10 ^ 64 → Positive most n
    → Ends no_digit rest → positive_at most (decimal n ++ rest) ≡ given n rest
positive_back most n rest small g ends =
    positive_again most n g.0 g.1 small rest ∙ digits_end most n rest ends

-- whether a number from 1 on begins with a byte
abbrev pub leads : ℕ → Bool
leads b = is_digit b && not (nat_eq b 48)

leads_is : (most b : ℕ) (bytes : List ℕ) (t : Bool) → leads b ≡ t
    → positive_at most (b ∷ bytes)
    ≡ (if t then digits_at most (b - 48) bytes else Err (suc (length bytes)))
unfolding positive_at
leads_is most b bytes t h =
    ap (λ (x : Bool). if x then digits_at most (b - 48) bytes else Err (suc (length bytes))) h

and_left : (x y : Bool) → (x && y) ≡ true → (x ≡ true) × (y ≡ true)
and_left true y e = (refl, e)
and_left false y e = let never : ⊥ = cc in absurd never

lead_value : (b : ℕ) → leads b ≡ true → (0 < b - 48) × (b - 48 ≤ 9) × (48 ≤ b)
lead_value b h =
    let both = and_left (is_digit b) (not (nat_eq b 48)) h in
    let range = digit_bounds b both.0 in
    let other = not_true (nat_eq b 48) both.1 in
    elim (cases_lt 48 b) [
      | inl more ↦ (omega (arith, more), omega (arith, range.1), range.0)
      | inr less ↦
          let is : b ≡ 48 = omega (arith, less, range.0) in
          let same : nat_eq b 48 ≡ true = ap (λ x. nat_eq x 48) is in
          let never : ⊥ = cc in absurd never
    ]

positive_some_at : (most b : ℕ) (bytes rest : List ℕ) (n : ℕ) (t : Bool) → leads b ≡ t
    → (if t then digits_at most (b - 48) bytes else Err (suc (length bytes))) ≡ given n rest
    → 0 < n
positive_some_at most b bytes rest n true h e =
    omega (arith, (lead_value b h).0, digits_more most (b - 48) bytes rest n e)
positive_some_at most b bytes rest n false h e = let never : ⊥ = cc in absurd never

positive_some : (most : ℕ) (bytes rest : List ℕ) (n : ℕ) → positive_at most bytes ≡ given n rest
    → 0 < n
unfolding positive_at
positive_some most [] rest n e = let never : ⊥ = cc in absurd never
positive_some most (b ∷ bytes) rest n e =
    positive_some_at most b bytes rest n (leads b) refl e

-- a number from 1 on that begins with a digit
first_is : (b : ℕ) → leads b ≡ true → decimal (b - 48) ≡ b ∷ []
first_is b h =
    let v = lead_value b h in
    let back : 48 + (b - 48) ≡ b = omega (arith, v.2) in
    decimal_digit (b - 48) (omega (arith, v.1)) ∙ ap (λ x. x ∷ []) back

positive_stops_at : (most b : ℕ) (bytes : List ℕ) (n : ℕ) (t : Bool) → 9 ≤ most
    → most < 10 ^ 64 → leads b ≡ t
    → (if t then digits_at most (b - 48) bytes else Err (suc (length bytes))) ≡ Err n
    → Stopped (positive_at most) decimal (Positive most) (b ∷ bytes) n
positive_stops_at most b bytes n true nine small h e =
    let v = lead_value b h in
    let st = digits_stop most (b - 48) bytes n v.0 (omega (arith, v.1, nine)) small e in
    record {
      front = b ∷ st.front;
      back = st.back;
      splits = ap (λ x. b ∷ x) st.splits;
      left = st.left;
      whole = st.whole;
      good = (st.some, st.fits);
      more = [];
      begun = st.begun ∙ ap (λ z. z ++ st.front) (first_is b h) ∙ sym (append-nil (b ∷ st.front));
      wrong = λ c cs others i.
          leads_is most b (st.front ++ c ∷ others) true h ∙ st.wrong c cs others i;
    }
positive_stops_at most b bytes n false nine small h e =
    let left : suc (length bytes) ≡ n = cc in
    record {
      front = [];
      back = b ∷ bytes;
      splits = refl;
      left = left;
      whole = 1;
      good = (omega arith, omega (arith, nine));
      more = decimal 1;
      begun = refl;
      wrong = λ c cs others i.
          let same : b ≡ c = cc i in
          ap (λ z. positive_at most (z ∷ others)) (sym same) ∙ leads_is most b others false h;
    }

positive_stops : (most : ℕ) → 9 ≤ most → most < 10 ^ 64 → (bytes : List ℕ) (n : ℕ)
    → positive_at most bytes ≡ Err n → Stopped (positive_at most) decimal (Positive most) bytes n
unfolding positive_at
positive_stops most nine small [] n e =
    let left : 0 ≡ n = cc in
    record {
      front = [];
      back = [];
      splits = refl;
      left = left;
      whole = 1;
      good = (omega arith, omega (arith, nine));
      more = decimal 1;
      begun = refl;
      wrong = λ b bs others i. let never : ⊥ = cc i in absurd never;
    }
positive_stops most nine small (b ∷ bytes) n e =
    positive_stops_at most b bytes n (leads b) nine small refl e

pub positive_reads : (most : ℕ) → 9 ≤ most → most < 10 ^ 64
    → Reads no_digit (positive_at most) decimal (Positive most)
positive_reads most nine small = record {
  again = λ n rest g ends. positive_back most n rest small g ends;
  takes = λ bytes n rest e.
      let s = positive_sound most bytes rest n nine small e in
      let g : Positive most n = (positive_some most bytes rest n e, s.1) in
      record {
        splits = s.0;
        good = g;
        alike = λ b bs others i.
            positive_back most n (b ∷ others) small g (still_ends rest b bs others s.2 i);
      };
  stops = positive_stops most nine small;
  some = 1;
  is_some = (omega arith, omega (arith, nine));
}

-- ---- numbers from 0 on

-- what follows a zero
abbrev zero_end : Reader ℕ
zero_end rest = if at_digit rest then Err (length rest) else given 0 rest

zero_end_is : (rest : List ℕ) (t : Bool) → at_digit rest ≡ t
    → zero_end rest ≡ (if t then Err (length rest) else given 0 rest)
zero_end_is rest t h = ap (λ (x : Bool). if x then Err (length rest) else given 0 rest) h

zero_end_takes : (t : Bool) (bytes : List ℕ) (n : ℕ) (rest : List ℕ) → at_digit bytes ≡ t
    → (if t then Err (length bytes) else given 0 bytes) ≡ given n rest
    → Took zero_end (λ (k : ℕ). []) (λ k. k ≡ 0) bytes n rest
zero_end_takes true bytes n rest h e = let never : ⊥ = cc in absurd never
zero_end_takes false bytes n rest h e =
    let same = given_is 0 n bytes rest e in
    record {
      splits = same.1;
      good = sym same.0;
      alike = λ b bs others i.
          let ends : at_digit (b ∷ bs) ≡ false = ap at_digit (sym (same.1 ∙ i)) ∙ h in
          zero_end_is (b ∷ others) false ends ∙ ap (λ k. given k (b ∷ others)) same.0;
    }

zero_end_stops : (t : Bool) (bytes : List ℕ) (n : ℕ) → at_digit bytes ≡ t
    → (if t then Err (length bytes) else given {A = ℕ} 0 bytes) ≡ Err n
    → Stopped zero_end (λ (k : ℕ). []) (λ k. k ≡ 0) bytes n
zero_end_stops true bytes n h e =
    let left : length bytes ≡ n = cc in
    record {
      front = [];
      back = bytes;
      splits = refl;
      left = left;
      whole = 0;
      good = refl;
      more = [];
      begun = refl;
      wrong = λ b bs others i.
          let digit : at_digit (b ∷ bs) ≡ true = ap at_digit (sym i) ∙ h in
          zero_end_is (b ∷ others) true digit;
    }
zero_end_stops false bytes n h e = let never : ⊥ = cc in absurd never

zero_end_reads : Reads no_digit zero_end (λ (k : ℕ). []) (λ k. k ≡ 0)
zero_end_reads = record {
  again = λ n rest g ends.
      zero_end_is rest false (no_digit_at rest ends) ∙ ap (λ k. given k rest) (sym g);
  takes = λ bytes n rest e. zero_end_takes (at_digit bytes) bytes n rest refl e;
  stops = λ bytes n e. zero_end_stops (at_digit bytes) bytes n refl e;
  some = 0;
  is_some = refl;
}

abbrev zero_at : Reader ℕ
zero_at bytes = after_word (codes "0") bytes >>= zero_end

zero_text : (n : ℕ) → n ≡ 0 → decimal n ≡ codes "0"
zero_text n e = ap decimal e ∙ decimal_digit 0 (omega arith)

zero_reads : Reads no_digit zero_at decimal (λ n. n ≡ 0)
zero_reads =
    same_reads no_digit zero_at (λ (n : ℕ). codes "0" ++ []) decimal (λ n. n ≡ 0) (λ n. n ≡ 0)
    (word_reads no_digit (codes "0") zero_end (λ (n : ℕ). []) (λ n. n ≡ 0) zero_end_reads)
    (λ n e. (e, zero_text n e)) (λ n e. (e, zero_text n e))

zero_first : (n : ℕ) (rest : List ℕ) → n ≡ 0 → is_at 48 (decimal n ++ rest) ≡ true
zero_first n rest e = ap (λ z. is_at 48 (z ++ rest)) (zero_text n e)

abbrev failed : ℕ → Read ℕ
failed k = Err k

nothing_read : (most n : ℕ) (rest : List ℕ) → positive_at most [] ≡ given n rest → ⊥
unfolding positive_at
nothing_read most n rest e = cc

-- what a number from 1 on begins with
no_lead : (most n : ℕ) (text rest : List ℕ) (c : ℕ) → leads c ≡ false
    → positive_at most (text ++ []) ≡ given n [] → is_at c (text ++ rest) ≡ false
no_lead most n [] rest c other e = absurd (nothing_read most n [] e)
no_lead most n (b ∷ text) rest c other e = by (nat_eq b c) refl
  where
    by : (t : Bool) → nat_eq b c ≡ t → nat_eq b c ≡ false
    by false h = h
    by true h =
        let is : leads b ≡ false = ap leads (eqb-true b c h) ∙ other in
        let no : failed (suc (length (text ++ []))) ≡ given n [] =
        sym (leads_is most b (text ++ []) false is) ∙ e in
        let never : ⊥ = cc in absurd never

positive_first : (most n : ℕ) (rest : List ℕ) (c : ℕ) → most < 10 ^ 64 → Positive most n
    → leads c ≡ false → is_at c (decimal n ++ rest) ≡ false
positive_first most n rest c small g other =
    no_lead most n (decimal n) rest c other
    (positive_again most n g.0 g.1 small [] ∙ digits_end most n [] tt)

-- a number begins with a digit
pub decimal_first : (most n : ℕ) (rest : List ℕ) (c : ℕ) → most < 10 ^ 64 → n ≤ most
    → leads c ≡ false → nat_eq 48 c ≡ false → is_at c (decimal n ++ rest) ≡ false
decimal_first most zero rest c small fits other zero_other =
    ap (λ z. is_at c (z ++ rest)) (decimal_digit 0 (omega arith)) ∙ zero_other
decimal_first most (suc n) rest c small fits other zero_other =
    positive_first most (suc n) rest c small (omega arith, fits) other

pub decimal_reads : (most : ℕ) → 9 ≤ most → most < 10 ^ 64
    → Reads no_digit (decimal_at most) decimal (λ n. n ≤ most)
unfolding decimal_at
decimal_reads most nine small =
    same_reads no_digit (decimal_at most) decimal decimal (λ n. (n ≡ 0) ⊎ Positive most n)
    (λ n. n ≤ most)
    (either_reads no_digit 48 zero_at (positive_at most) decimal (λ n. n ≡ 0) (Positive most)
    zero_reads (positive_reads most nine small) zero_first
    (λ n rest g. positive_first most n rest 48 small g refl))
    (λ n fits. (side n fits, refl)) (λ n g. (fitting n g, refl))
  where
    side : (n : ℕ) → n ≤ most → (n ≡ 0) ⊎ Positive most n
    side zero fits = inl refl
    side (suc n) fits = inr (omega arith, fits)

    fitting : (n : ℕ) → (n ≡ 0) ⊎ Positive most n → n ≤ most
    fitting n (inl e) = omega (arith, e)
    fitting n (inr g) = g.1
