-- What is said of readers of numbers.
use Rattle.std.proofs.Common.{◌≡◌, ℕ, zero, suc, ◌+◌, ◌-◌, ◌*◌, ◌/◌, ◌%◌, ◌^◌, ◌<◌, ◌≤◌, Bool, true, false, ◌&&◌, not, List, [], ◌∷◌, ◌++◌, Option, None, Some, Result, Ok, Err, length, refl, ap, sym, ◌∙◌, subst, append_assoc, append-nil, cond, arith, decimal, nat_le}
use Rattle.std.proofs.lemmas.Bool.{and_from, and_parts}
use Rattle.std.proofs.lemmas.Bool.Decides.{nat_tests}
use Rattle.std.proofs.lemmas.Fmt.{decimal_by_steps_wide, decimal_digit, decimal_step_wide}
use Rattle.cu_prooftext.specs.Inside.Readers.{allowed, digits_at, ended_at, is_digit, next_number, number_end}
use Rattle.cu_prooftext.proofs.ReaderLaws.{Ends, Reads, Stopped, Took}

-- Numbers that fit, and those that lead to one: they are it, or its first digits.
pub record Ranges (leads fits : ℕ → Bool) : Type 0 where
  pub short : (n d : ℕ) → 0 < n → d < 10 → leads (n * 10 + d) ≡ true → leads n ≡ true
  pub whole : (n : ℕ) → fits n ≡ true → leads n ≡ true
  pub some : (n : ℕ) → leads n ≡ true → (m : ℕ) × (more : List ℕ) × (fits m ≡ true) × (decimal m ≡ decimal n ++ more)
  pub small : (n : ℕ) → leads n ≡ true → n < 10 ^ 64
  pub any : ℕ
  pub any_fits : fits any ≡ true

-- a number stops where no digit follows
abbrev pub no_digit : ℕ → Bool
no_digit b = not (is_digit b)

abbrev Leads : (ℕ → Bool) → Option ℕ → Type 0
Leads leads None = Unit {0}
Leads leads (Some n) = leads n ≡ true

abbrev text_so_far : Option ℕ → List ℕ
text_so_far None = []
text_so_far (Some n) = decimal n

-- ---- digits

digit_of : (d : ℕ) → d < 10 → is_digit (48 + d) ≡ true
digit_of d h = grind (arith, nat_tests)

digit_value : (b : ℕ) → is_digit b ≡ true → (b ≡ 48 + (b - 48)) × (b - 48 < 10)
digit_value b h =
    let parts = and_parts (nat_le 48 b) (nat_le b 57) h in
    (grind (arith, nat_tests), grind (arith, nat_tests))

-- ---- one step

allowed_is : (leads : ℕ → Bool) (n m : ℕ) (t : Bool) → leads n ≡ t → cond t (Some n) None ≡ Some m → (n ≡ m) × (leads m ≡ true)
allowed_is leads n m true h e = let same : n ≡ m = cc e in (same, ap leads (sym same) ∙ h)
allowed_is leads n m false h e = let never : ⊥ = cc e in absurd never

next_leads : (leads : ℕ → Bool) (s : Option ℕ) (d n : ℕ) → next_number leads s d ≡ Some n → leads n ≡ true
next_leads leads None d n e = (allowed_is leads d n (leads d) refl e).1
next_leads leads (Some zero) d n e = let never : ⊥ = cc e in absurd never
next_leads leads (Some (suc m)) d n e = (allowed_is leads (suc m * 10 + d) n (leads (suc m * 10 + d)) refl e).1

pub decimal_longer : (m d : ℕ) → 0 < m → d < 10 → m * 10 + d < 10 ^ 64 → decimal (m * 10 + d) ≡ decimal m ++ ((48 + d) ∷ [])
decimal_longer m d more small bound =
    let q : (m * 10 + d) / 10 ≡ m = omega arith in
    let r : (m * 10 + d) % 10 ≡ d = omega arith in
    decimal_step_wide (m * 10 + d) (omega arith) bound ∙ ap (λ (k : ℕ). decimal k ++ ((48 + (m * 10 + d) % 10) ∷ [])) q
    ∙ ap (λ (k : ℕ). decimal m ++ ((48 + k) ∷ [])) r

next_text : (leads fits : ℕ → Bool) → Ranges leads fits → (s : Option ℕ) (d n : ℕ) → d < 10 → next_number leads s d ≡ Some n → decimal n ≡ text_so_far s ++ ((48 + d) ∷ [])
next_text leads fits ranges None d n small e =
    let is = allowed_is leads d n (leads d) refl e in
    ap decimal (sym is.0) ∙ decimal_digit d small
next_text leads fits ranges (Some zero) d n small e = let never : ⊥ = cc e in absurd never
next_text leads fits ranges (Some (suc m)) d n small e =
    let is = allowed_is leads (suc m * 10 + d) n (leads (suc m * 10 + d)) refl e in
    let bound : suc m * 10 + d < 10 ^ 64 = subst (λ (k : ℕ). k < 10 ^ 64) (sym is.0) (ranges.small n is.1) in
    ap decimal (sym is.0) ∙ decimal_longer (suc m) d (omega arith) small bound

abbrev on_next : (ℕ → Bool) → (ℕ → Bool) → Option ℕ → ℕ → List ℕ → Result (ℕ × List ℕ) ℕ
on_next leads fits None b bs = Err (length (b ∷ bs))
on_next leads fits (Some n) b bs = digits_at leads fits (Some n) bs

digit_step : (leads fits : ℕ → Bool) (s : Option ℕ) (b : ℕ) (bs : List ℕ) → is_digit b ≡ true
    → digits_at leads fits s (b ∷ bs) ≡ (elim (next_number leads s (b - 48)) [ Some n ↦ digits_at leads fits (Some n) bs | None ↦ Err (length (b ∷ bs)) ])
digit_step leads fits s b bs h =
    ap (λ (t : Bool). cond t (elim (next_number leads s (b - 48)) [ Some n ↦ digits_at leads fits (Some n) bs | None ↦ Err (length (b ∷ bs)) ]) (number_end fits s (b ∷ bs))) h

digit_goes : (leads fits : ℕ → Bool) (s : Option ℕ) (b : ℕ) (bs : List ℕ) (n : ℕ) → is_digit b ≡ true → next_number leads s (b - 48) ≡ Some n
    → digits_at leads fits s (b ∷ bs) ≡ digits_at leads fits (Some n) bs
digit_goes leads fits s b bs n h e =
    digit_step leads fits s b bs h
    ∙ ap (λ (o : Option ℕ). elim o [ Some n ↦ digits_at leads fits (Some n) bs | None ↦ Err (length (b ∷ bs)) ]) e

digit_fails : (leads fits : ℕ → Bool) (s : Option ℕ) (b : ℕ) (bs : List ℕ) → is_digit b ≡ true → next_number leads s (b - 48) ≡ None
    → digits_at leads fits s (b ∷ bs) ≡ Err (length (b ∷ bs))
digit_fails leads fits s b bs h e =
    digit_step leads fits s b bs h
    ∙ ap (λ (o : Option ℕ). elim o [ Some n ↦ digits_at leads fits (Some n) bs | None ↦ Err (length (b ∷ bs)) ]) e

digit_ends : (leads fits : ℕ → Bool) (s : Option ℕ) (b : ℕ) (bs : List ℕ) → is_digit b ≡ false → digits_at leads fits s (b ∷ bs) ≡ number_end fits s (b ∷ bs)
digit_ends leads fits s b bs h =
    ap (λ (t : Bool). cond t (elim (next_number leads s (b - 48)) [ Some n ↦ digits_at leads fits (Some n) bs | None ↦ Err (length (b ∷ bs)) ]) (number_end fits s (b ∷ bs))) h

-- ---- the digits of a number are read as the number

abbrev Onward : (ℕ → Bool) → (ℕ → Bool) → ℕ → List ℕ → Type 0
Onward leads fits n ds = leads n ≡ true → (rest : List ℕ) → digits_at leads fits None (ds ++ rest) ≡ digits_at leads fits (Some n) rest

first_onward : (leads fits : ℕ → Bool) (n : ℕ) → n < 10 → Onward leads fits n ((48 + n) ∷ [])
first_onward leads fits n small h rest =
    let value : (48 + n) - 48 ≡ n = omega arith in
    digit_goes leads fits None (48 + n) rest n (digit_of n small)
    (ap (allowed leads) value ∙ ap (λ (t : Bool). cond t (Some n) None) h)

next_is : (leads : ℕ → Bool) (m d : ℕ) → 0 < m → leads (m * 10 + d) ≡ true → next_number leads (Some m) d ≡ Some (m * 10 + d)
next_is leads zero d more h = let never : ⊥ = omega arith in absurd never
next_is leads (suc m) d more h = ap (λ (t : Bool). cond t (Some (suc m * 10 + d)) None) h

more_onward : (leads fits : ℕ → Bool) → Ranges leads fits → (n : ℕ) (ds : List ℕ) → 10 ≤ n → Onward leads fits (n / 10) ds → Onward leads fits n (ds ++ ((48 + n % 10) ∷ []))
more_onward leads fits ranges n ds large before h rest =
    let m : ℕ = n / 10 in
    let d : ℕ = n % 10 in
    let whole : n / 10 * 10 + n % 10 ≡ n = omega arith in
    let small : n % 10 < 10 = omega arith in
    let more : 0 < n / 10 = omega arith in
    let led : leads (n / 10 * 10 + n % 10) ≡ true = ap leads whole ∙ h in
    let value : (48 + n % 10) - 48 ≡ n % 10 = omega arith in
    ap (digits_at leads fits None) (append_assoc ds ((48 + n % 10) ∷ []) rest)
    ∙ before (ranges.short (n / 10) (n % 10) more small led) ((48 + n % 10) ∷ rest)
    ∙ digit_goes leads fits (Some (n / 10)) (48 + n % 10) rest (n / 10 * 10 + n % 10) (digit_of (n % 10) small)
    (ap (next_number leads (Some (n / 10))) value ∙ next_is leads (n / 10) (n % 10) more led)
    ∙ ap (λ (k : ℕ). digits_at leads fits (Some k) rest) whole

onward : (leads fits : ℕ → Bool) → Ranges leads fits → (n : ℕ) → leads n ≡ true → (rest : List ℕ) → digits_at leads fits None (decimal n ++ rest) ≡ digits_at leads fits (Some n) rest
onward leads fits ranges n h =
    decimal_by_steps_wide (Onward leads fits) (first_onward leads fits) (more_onward leads fits ranges) n (ranges.small n h) h

not_true : (t : Bool) → not t ≡ true → t ≡ false
not_true true h = let never : ⊥ = cc h in absurd never
not_true false h = refl

number_stops : (leads fits : ℕ → Bool) (n : ℕ) (rest : List ℕ) → fits n ≡ true → Ends no_digit rest → digits_at leads fits (Some n) rest ≡ Ok (n, rest)
number_stops leads fits n [] g e = ap (λ (t : Bool). ended_at t n []) g
number_stops leads fits n (b ∷ bs) g e =
    digit_ends leads fits (Some n) b bs (not_true (is_digit b) e) ∙ ap (λ (t : Bool). ended_at t n (b ∷ bs)) g

number_again : (leads fits : ℕ → Bool) → Ranges leads fits → (n : ℕ) (rest : List ℕ) → fits n ≡ true → Ends no_digit rest → digits_at leads fits None (decimal n ++ rest) ≡ Ok (n, rest)
number_again leads fits ranges n rest g e = onward leads fits ranges n (ranges.whole n g) rest ∙ number_stops leads fits n rest g e

-- ---- what is read is a number

record Digits (fits : ℕ → Bool) (s : Option ℕ) (bytes : List ℕ) (x : ℕ) (rest : List ℕ) : Type 0 where
  digits : List ℕ
  splits : bytes ≡ digits ++ rest
  text : decimal x ≡ text_so_far s ++ digits
  good : fits x ≡ true
  ends : Ends no_digit rest

end_digits_at : (fits : ℕ → Bool) (n : ℕ) (bytes : List ℕ) (x : ℕ) (rest : List ℕ) (t : Bool) → fits n ≡ t → Ends no_digit bytes → ended_at t n bytes ≡ Ok (x, rest)
    → Digits fits (Some n) bytes x rest
end_digits_at fits n bytes x rest false g h e = let never : ⊥ = cc e in absurd never
end_digits_at fits n bytes x rest true g h e =
    let same : (n, bytes) ≡ (x, rest) = cc e in
    let here : Digits fits (Some n) bytes n bytes = record { digits = []; splits = refl; text = sym (append-nil (decimal n)); good = g; ends = h } in
    subst (λ (z : ℕ × List ℕ). Digits fits (Some n) bytes z.0 z.1) same here

end_digits : (fits : ℕ → Bool) (s : Option ℕ) (bytes : List ℕ) (x : ℕ) (rest : List ℕ) → Ends no_digit bytes → number_end fits s bytes ≡ Ok (x, rest) → Digits fits s bytes x rest
end_digits fits None bytes x rest h e = let never : ⊥ = cc e in absurd never
end_digits fits (Some n) bytes x rest h e = end_digits_at fits n bytes x rest (fits n) refl h e

no_more_digit : (t : Bool) → t ≡ false → not t ≡ true
no_more_digit true h = let never : ⊥ = cc h in absurd never
no_more_digit false h = refl

digits_next : (leads fits : ℕ → Bool) → Ranges leads fits → (s : Option ℕ) (b : ℕ) (bs : List ℕ) (x : ℕ) (rest : List ℕ)
    → ((n : ℕ) → digits_at leads fits (Some n) bs ≡ Ok (x, rest) → Digits fits (Some n) bs x rest)
    → (o : Option ℕ) → is_digit b ≡ true → next_number leads s (b - 48) ≡ o → digits_at leads fits s (b ∷ bs) ≡ Ok (x, rest) → Digits fits s (b ∷ bs) x rest
digits_next leads fits ranges s b bs x rest further None h o e =
    let wrong = sym (digit_fails leads fits s b bs h o) ∙ e in
    let never : ⊥ = cc wrong in absurd never
digits_next leads fits ranges s b bs x rest further (Some n) h o e =
    let value = digit_value b h in
    let d = further n (sym (digit_goes leads fits s b bs n h o) ∙ e) in
    record {
      digits = b ∷ d.digits;
      splits = ap (λ (z : List ℕ). b ∷ z) d.splits;
      text = d.text
          ∙ ap (λ (z : List ℕ). z ++ d.digits) (next_text leads fits ranges s (b - 48) n value.1 o)
          ∙ append_assoc (text_so_far s) ((48 + (b - 48)) ∷ []) d.digits
          ∙ ap (λ (c : ℕ). text_so_far s ++ (c ∷ d.digits)) (sym value.0);
      good = d.good;
      ends = d.ends;
    }

-- whether one of two things is so, with what follows from each
digits_on : (leads fits : ℕ → Bool) → Ranges leads fits → (s : Option ℕ) (b : ℕ) (bs : List ℕ) (x : ℕ) (rest : List ℕ)
    → ((n : ℕ) → digits_at leads fits (Some n) bs ≡ Ok (x, rest) → Digits fits (Some n) bs x rest)
    → (t : Bool) → is_digit b ≡ t → digits_at leads fits s (b ∷ bs) ≡ Ok (x, rest) → Digits fits s (b ∷ bs) x rest
digits_on leads fits ranges s b bs x rest further false h e =
    end_digits fits s (b ∷ bs) x rest (no_more_digit (is_digit b) h) (sym (digit_ends leads fits s b bs h) ∙ e)
digits_on leads fits ranges s b bs x rest further true h e = digits_next leads fits ranges s b bs x rest further (next_number leads s (b - 48)) h refl e

digits_take : (leads fits : ℕ → Bool) → Ranges leads fits → (bytes : List ℕ) (s : Option ℕ) (x : ℕ) (rest : List ℕ) → digits_at leads fits s bytes ≡ Ok (x, rest) → Digits fits s bytes x rest
digits_take leads fits ranges [] s x rest e = end_digits fits s [] x rest tt e
digits_take leads fits ranges (b ∷ bs) s x rest e =
    digits_on leads fits ranges s b bs x rest (λ n. digits_take leads fits ranges bs (Some n) x rest) (is_digit b) refl e

number_takes : (leads fits : ℕ → Bool) → Ranges leads fits → (bytes : List ℕ) (x : ℕ) (rest : List ℕ) → digits_at leads fits None bytes ≡ Ok (x, rest)
    → Took (digits_at leads fits None) decimal (λ n. fits n ≡ true) bytes x rest
number_takes leads fits ranges bytes x rest e =
    let d = digits_take leads fits ranges bytes None x rest e in
    record {
      splits = d.splits ∙ ap (λ (z : List ℕ). z ++ rest) (sym d.text);
      good = d.good;
      alike = λ b bs others i. number_again leads fits ranges x (b ∷ others) d.good (let same : Ends no_digit (b ∷ bs) = subst (Ends no_digit) i d.ends in same);
    }

-- ---- faults

record Fault (leads fits : ℕ → Bool) (s : Option ℕ) (bytes : List ℕ) (n : ℕ) : Type 0 where
  front : List ℕ
  back : List ℕ
  splits : bytes ≡ front ++ back
  left : length back ≡ n
  whole : ℕ
  good : fits whole ≡ true
  more : List ℕ
  begun : decimal whole ≡ (text_so_far s ++ front) ++ more
  wrong : (b : ℕ) (bs others : List ℕ) → back ≡ b ∷ bs → digits_at leads fits s (front ++ b ∷ others) ≡ Err (length (b ∷ others))

-- a number that begins so
so_far : (leads fits : ℕ → Bool) → Ranges leads fits → (s : Option ℕ) → Leads leads s → (m : ℕ) × (more : List ℕ) × (fits m ≡ true) × (decimal m ≡ text_so_far s ++ more)
so_far leads fits ranges None h = (ranges.any, decimal ranges.any, ranges.any_fits, refl)
so_far leads fits ranges (Some n) h = ranges.some n h

-- a fault at the first of the bytes
here : (leads fits : ℕ → Bool) → Ranges leads fits → (s : Option ℕ) → Leads leads s → (bytes : List ℕ) (n : ℕ) → length bytes ≡ n
    → ((b : ℕ) (bs others : List ℕ) → bytes ≡ b ∷ bs → digits_at leads fits s (b ∷ others) ≡ Err (length (b ∷ others))) → Fault leads fits s bytes n
here leads fits ranges s h bytes n left wrong =
    let m = so_far leads fits ranges s h in
    record {
      front = [];
      back = bytes;
      splits = refl;
      left = left;
      whole = m.0;
      good = m.2;
      more = m.1;
      begun = m.3 ∙ ap (λ (z : List ℕ). z ++ m.1) (sym (append-nil (text_so_far s)));
      wrong = wrong;
    }

end_left_at : (fits : ℕ → Bool) (k : ℕ) (bytes : List ℕ) (n : ℕ) (t : Bool) → fits k ≡ t → ended_at t k bytes ≡ Err n
    → (length bytes ≡ n) × (fits k ≡ false)
end_left_at fits k bytes n true g e = let never : ⊥ = cc e in absurd never
end_left_at fits k bytes n false g e = let same : length bytes ≡ n = cc e in (same, g)

-- where a number ends that doesn't fit, it ends so whatever follows
end_wrong : (fits : ℕ → Bool) (s : Option ℕ) (bytes : List ℕ) (n : ℕ) → number_end fits s bytes ≡ Err n
    → (length bytes ≡ n) × ((others : List ℕ) → number_end fits s others ≡ Err (length others))
end_wrong fits None bytes n e = let same : length bytes ≡ n = cc e in (same, λ others. refl)
end_wrong fits (Some k) bytes n e =
    let is = end_left_at fits k bytes n (fits k) refl e in
    (is.0, λ others. ap (λ (t : Bool). ended_at t k others) is.1)

fault_next : (leads fits : ℕ → Bool) → Ranges leads fits → (s : Option ℕ) → Leads leads s → (b : ℕ) (bs : List ℕ) (n : ℕ)
    → ((k : ℕ) → leads k ≡ true → digits_at leads fits (Some k) bs ≡ Err n → Fault leads fits (Some k) bs n)
    → (o : Option ℕ) → is_digit b ≡ true → next_number leads s (b - 48) ≡ o → digits_at leads fits s (b ∷ bs) ≡ Err n → Fault leads fits s (b ∷ bs) n
fault_next leads fits ranges s led b bs n further None h o e =
    let ends = sym (digit_fails leads fits s b bs h o) ∙ e in
    let left : length (b ∷ bs) ≡ n = cc ends in
    here leads fits ranges s led (b ∷ bs) n left
    (λ c cs others i.
    let same : b ≡ c = cc i in
    subst (λ (z : ℕ). digits_at leads fits s (z ∷ others) ≡ Err (length (z ∷ others))) same (digit_fails leads fits s b others h o))
fault_next leads fits ranges s led b bs n further (Some k) h o e =
    let value = digit_value b h in
    let f = further k (next_leads leads s (b - 48) k o) (sym (digit_goes leads fits s b bs k h o) ∙ e) in
    record {
      front = b ∷ f.front;
      back = f.back;
      splits = ap (λ (z : List ℕ). b ∷ z) f.splits;
      left = f.left;
      whole = f.whole;
      good = f.good;
      more = f.more;
      begun = f.begun
          ∙ ap (λ (z : List ℕ). (z ++ f.front) ++ f.more) (next_text leads fits ranges s (b - 48) k value.1 o)
          ∙ ap (λ (z : List ℕ). z ++ f.more) (append_assoc (text_so_far s) ((48 + (b - 48)) ∷ []) f.front)
          ∙ ap (λ (c : ℕ). (text_so_far s ++ (c ∷ f.front)) ++ f.more) (sym value.0);
      wrong = λ c cs others i. digit_goes leads fits s b (f.front ++ c ∷ others) k h o ∙ f.wrong c cs others i;
    }

fault_on : (leads fits : ℕ → Bool) → Ranges leads fits → (s : Option ℕ) → Leads leads s → (b : ℕ) (bs : List ℕ) (n : ℕ)
    → ((k : ℕ) → leads k ≡ true → digits_at leads fits (Some k) bs ≡ Err n → Fault leads fits (Some k) bs n)
    → (t : Bool) → is_digit b ≡ t → digits_at leads fits s (b ∷ bs) ≡ Err n → Fault leads fits s (b ∷ bs) n
fault_on leads fits ranges s led b bs n further true h e = fault_next leads fits ranges s led b bs n further (next_number leads s (b - 48)) h refl e
fault_on leads fits ranges s led b bs n further false h e =
    let w = end_wrong fits s (b ∷ bs) n (sym (digit_ends leads fits s b bs h) ∙ e) in
    here leads fits ranges s led (b ∷ bs) n w.0
    (λ c cs others i.
    let same : b ≡ c = cc i in
    subst (λ (z : ℕ). digits_at leads fits s (z ∷ others) ≡ Err (length (z ∷ others))) same (digit_ends leads fits s b others h ∙ w.1 (b ∷ others)))

digits_stop : (leads fits : ℕ → Bool) → Ranges leads fits → (bytes : List ℕ) (s : Option ℕ) → Leads leads s → (n : ℕ) → digits_at leads fits s bytes ≡ Err n → Fault leads fits s bytes n
digits_stop leads fits ranges [] s led n e =
    here leads fits ranges s led [] n (end_wrong fits s [] n e).0 (λ b bs others i. let never : ⊥ = cc i in absurd never)
digits_stop leads fits ranges (b ∷ bs) s led n e =
    fault_on leads fits ranges s led b bs n (λ k h. digits_stop leads fits ranges bs (Some k) h n) (is_digit b) refl e

number_faults : (leads fits : ℕ → Bool) → Ranges leads fits → (bytes : List ℕ) (n : ℕ) → digits_at leads fits None bytes ≡ Err n
    → Stopped (digits_at leads fits None) decimal (λ k. fits k ≡ true) bytes n
number_faults leads fits ranges bytes n e =
    let f = digits_stop leads fits ranges bytes None tt n e in
    record {
      front = f.front;
      back = f.back;
      splits = f.splits;
      left = f.left;
      whole = f.whole;
      good = f.good;
      more = f.more;
      begun = f.begun;
      wrong = f.wrong;
    }

pub number_reads : (leads fits : ℕ → Bool) → Ranges leads fits → Reads no_digit (digits_at leads fits None) decimal (λ n. fits n ≡ true)
number_reads leads fits ranges = record {
  again = number_again leads fits ranges;
  takes = number_takes leads fits ranges;
  stops = number_faults leads fits ranges;
  some = ranges.any;
  is_some = ranges.any_fits;
}

-- ---- ranges of numbers

-- the numbers from 0 on, up to one
pub up_to : (most : ℕ) → most < 10 ^ 64 → Ranges (λ n. nat_le n most) (λ n. nat_le n most)
up_to most bound = record {
  short = λ n d more small h. grind (arith, nat_tests);
  whole = λ n h. h;
  some = λ n h. (n, [], h, sym (append-nil (decimal n)));
  small = λ n h. grind (arith, nat_tests);
  any = 0;
  any_fits = grind (arith, nat_tests);
}

-- the numbers from 1 on, up to one
pub from_one : (most : ℕ) → 0 < most → most < 10 ^ 64 → Ranges (λ n. nat_le 1 n && nat_le n most) (λ n. nat_le 1 n && nat_le n most)
from_one most positive bound = record {
  short = λ n d more small h.
      let parts = and_parts (nat_le 1 (n * 10 + d)) (nat_le (n * 10 + d) most) h in
      and_from (nat_le 1 n) (nat_le n most) (grind (arith, nat_tests)) (grind (arith, nat_tests));
  whole = λ n h. h;
  some = λ n h. (n, [], h, sym (append-nil (decimal n)));
  small = λ n h. let parts = and_parts (nat_le 1 n) (nat_le n most) h in grind (arith, nat_tests);
  any = 1;
  any_fits = and_from (nat_le 1 1) (nat_le 1 most) refl (grind (arith, nat_tests));
}
