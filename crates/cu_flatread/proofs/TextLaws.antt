-- What is said of the reader of quoted names: what is read between quotes is UTF-8 without quotes, a
-- backslash standing twice; each such text is read; and the fault is at the first byte after which
-- none goes on.
use Rattle.std.proofs.Common.{◌≡◌, ℕ, zero, suc, ◌+◌, ◌/◌, ◌≤◌, ◌<◌, ◌⊎◌, inl, inr, Bool, true, false, ◌&&◌, List, [], ◌∷◌, ◌++◌, Option, None, Some, Ok, Err, codes, if◌then◌else◌, length, nat_eq, nat_le, nat_lt, refl, sym, ap, subst, ◌∙◌, arith, eqb-true, leb-true, le-leb, ltb-true}
use Rattle.std.specs.List.{flat_map}
use Rattle.std.specs.Str.{IsUtf8}
use Rattle.std.proofs.lemmas.Bool.{cases_lt}
use Rattle.std.proofs.lemmas.Bool.Decides.{nat_tests}
use Rattle.std.proofs.lemmas.Str.{IsUtf8-append, IsUtf8-nil}
use Rattle.std.proofs.str.Laws.{one, two, three, four}
use Rattle.std.proofs.str.Valid.{of_one}
use lib.Utf8.{encode, encodes, next, scalar, scalar_cases, scalars}
use Rattle.cu_flatread.proofs.DecimalLemmas.{and_true, given, given_is, true_and}
use Rattle.cu_flatread.proofs.NameLemmas.{InCharacter, IsTextAt, chosen, front_is, inside_more, some_is, some_pending, wide}
use Rattle.cu_flatread.proofs.ReaderLaws.{Reads, always}
use Rattle.cu_flatread.specs.Inside.Names.{added, after_byte, after_first, after_part, begun_by, ends, text_at, with_front}
use Rattle.cu_flatread.specs.Inside.Words.{Read}
use Rattle.cu_flatread.specs.Notation.{escaped_byte}
use Rattle.cu_flatread.specs.declared.quoted.Pending.{Pending}
use Rattle.cu_flatread.specs.declared.quoted.Within.{Within}
use Rattle.cu_flatread.specs.declared.quoted.Within.TheVariants as within

-- ---- what a text is where reading it begins at some place

-- no byte is a quote
abbrev pub Plain : List ℕ → Type 0
Plain [] = Unit {0}
Plain (b ∷ text) = (nat_eq b 34 ≡ false) × Plain text

-- after a backslash comes another one
abbrev IsAfter : Within → List ℕ → Type 0
IsAfter within.Between text = Unit {0}
IsAfter within.Escaped [] = ⊥
IsAfter within.Escaped (b ∷ text) = b ≡ 92
IsAfter (within.Inside p) text = Unit {0}

-- what is still to come inside a character isn't ASCII, and there is such a byte
abbrev IsValid : Within → Type 0
IsValid (within.Inside p) = (128 ≤ p.low) × (p.low ≤ p.high) × (p.high ≤ 191)
IsValid _ = Unit {0}

record GoodAt (place : Within) (text : List ℕ) : Type 0 where
  utf8 : IsTextAt place text
  is_after : IsAfter place text
  plain : Plain text

-- the bytes of a text up to and with the closing quote
abbrev pub to_quote : List ℕ → List ℕ
to_quote text = flat_map escaped_byte text ++ codes "\""

-- the bytes of a text at a place
abbrev spelled_at : Within → List ℕ → List ℕ
spelled_at within.Between text = to_quote text
spelled_at within.Escaped [] = to_quote []
spelled_at within.Escaped (b ∷ text) = b ∷ to_quote text
spelled_at (within.Inside p) text = to_quote text

-- ---- one byte

-- what a byte leads to
abbrev IsStep : Within → ℕ → Within → Type 0
IsStep within.Between b within.Escaped = b ≡ 92
IsStep within.Between b within.Between = (nat_eq b 92 ≡ false) × (b < 128)
IsStep within.Between b (within.Inside p) =
    (nat_eq b 92 ≡ false) × (128 ≤ b) × (after_first b ≡ Some p)
IsStep within.Escaped b within.Between = b ≡ 92
IsStep within.Escaped b _ = ⊥
IsStep (within.Inside p) b place = (p.low ≤ b) × (b ≤ p.high) × (after_part p.more ≡ place)

begun_wide : (o : Option Pending) (b : ℕ) (place : Within) → nat_eq b 92 ≡ false → 128 ≤ b
    → after_first b ≡ o → begun_by o ≡ Some place → IsStep within.Between b place
begun_wide None b place slash high is e = let never : ⊥ = cc in absurd never
begun_wide (Some p) b place slash high is e =
    let same : within.Inside p ≡ place = cc in
    subst (IsStep within.Between b) same (slash, high, is)

begun_ascii : (t : Bool) (b : ℕ) (place : Within) → nat_eq b 92 ≡ false → nat_lt b 128 ≡ t
    → (if t then Some within.Between else begun_by (after_first b)) ≡ Some place
    → IsStep within.Between b place
begun_ascii true b place slash low e =
    let same : within.Between ≡ place = cc in
    subst (IsStep within.Between b) same (slash, ltb-true b 128 low)
begun_ascii false b place slash low e =
    let high : 128 ≤ b = grind (arith, nat_tests) in
    begun_wide (after_first b) b place slash high refl e

begun_slash : (t : Bool) (b : ℕ) (place : Within) → nat_eq b 92 ≡ t
    → (if t then Some within.Escaped else
    (if nat_lt b 128 then Some within.Between else begun_by (after_first b))) ≡ Some place
    → IsStep within.Between b place
begun_slash true b place slash e =
    let same : within.Escaped ≡ place = cc in
    subst (IsStep within.Between b) same (eqb-true b 92 slash)
begun_slash false b place slash e = begun_ascii (nat_lt b 128) b place slash refl e

escape_step : (t : Bool) (b : ℕ) (place : Within) → nat_eq b 92 ≡ t
    → (if t then Some within.Between else None) ≡ Some place → IsStep within.Escaped b place
escape_step true b place slash e =
    let same : within.Between ≡ place = cc in
    subst (IsStep within.Escaped b) same (eqb-true b 92 slash)
escape_step false b place slash e = let never : ⊥ = cc in absurd never

inside_step : (t : Bool) (p : Pending) (b : ℕ) (place : Within)
    → (nat_le p.low b && nat_le b p.high) ≡ t
    → (if t then Some (after_part p.more) else None) ≡ Some place
    → IsStep (within.Inside p) b place
inside_step true p b place range e =
    let same : after_part p.more ≡ place = cc in
    let both = and_true (nat_le p.low b) (nat_le b p.high) range in
    (leb-true p.low b both.0, leb-true b p.high both.1, same)
inside_step false p b place range e = let never : ⊥ = cc in absurd never

step_of : (place : Within) (b : ℕ) (onward : Within) → after_byte place b ≡ Some onward
    → IsStep place b onward
step_of within.Between b onward e = begun_slash (nat_eq b 92) b onward refl e
step_of within.Escaped b onward e = escape_step (nat_eq b 92) b onward refl e
step_of (within.Inside p) b onward e =
    inside_step (nat_le p.low b && nat_le b p.high) p b onward refl e

-- ---- what comes after a first byte

first_valid : (b : ℕ) (p : Pending) → after_first b ≡ Some p → IsValid (within.Inside p)
first_valid b p e =
    elim (chosen (nat_lt b 0xC2) None _ (Some p) e) [
      | inl a ↦ let never : ⊥ = cc in absurd never
      | inr a ↦ elim (chosen (nat_le b 0xDF) (Some (some_pending 0x80 0xBF 0)) _ (Some p) a.1) [
        | inl is ↦ valid_of 0x80 0xBF 0 (omega arith) (omega arith) (omega arith) is.1
        | inr d ↦ elim (chosen (nat_eq b 0xE0) (Some (some_pending 0xA0 0xBF 1)) _ (Some p) d.1) [
          | inl is ↦ valid_of 0xA0 0xBF 1 (omega arith) (omega arith) (omega arith) is.1
          | inr f ↦ elim (chosen (nat_eq b 0xED) (Some (some_pending 0x80 0x9F 1)) _ (Some p) f.1) [
            | inl is ↦ valid_of 0x80 0x9F 1 (omega arith) (omega arith) (omega arith) is.1
            | inr g ↦ elim (chosen (nat_le b 0xEF) (Some (some_pending 0x80 0xBF 1)) _ (Some p) g.1) [
              | inl is ↦ valid_of 0x80 0xBF 1 (omega arith) (omega arith) (omega arith) is.1
              | inr h ↦ elim (chosen (nat_eq b 0xF0) (Some (some_pending 0x90 0xBF 2)) _ (Some p) h.1) [
                | inl is ↦ valid_of 0x90 0xBF 2 (omega arith) (omega arith) (omega arith) is.1
                | inr j ↦ elim (chosen (nat_le b 0xF3) (Some (some_pending 0x80 0xBF 2)) _ (Some p) j.1) [
                  | inl is ↦ valid_of 0x80 0xBF 2 (omega arith) (omega arith) (omega arith) is.1
                  | inr k ↦ elim (chosen (nat_eq b 0xF4) (Some (some_pending 0x80 0x8F 2)) None (Some p) k.1) [
                    | inl is ↦ valid_of 0x80 0x8F 2 (omega arith) (omega arith) (omega arith) is.1
                    | inr m ↦ let never : ⊥ = cc in absurd never
                  ]
                ]
              ]
            ]
          ]
        ]
      ]
    ]
  where
    valid_of : (low high more : ℕ) → 128 ≤ low → low ≤ high → high ≤ 191
        → Some (some_pending low high more) ≡ Some p → IsValid (within.Inside p)
    valid_of low high more above range below is =
        subst (λ (q : Pending). IsValid (within.Inside q)) (some_is (some_pending low high more) p is)
        (above, range, below)

part_valid : (more : ℕ) → IsValid (after_part more)
part_valid zero = tt
part_valid (suc more) = (omega arith, omega arith, omega arith)

step_valid : (place : Within) (b : ℕ) (onward : Within) → IsStep place b onward → IsValid onward
step_valid within.Between b within.Between s = tt
step_valid within.Between b within.Escaped s = tt
step_valid within.Between b (within.Inside p) s = first_valid b p s.2
step_valid within.Escaped b within.Between s = tt
step_valid within.Escaped b within.Escaped s = absurd s
step_valid within.Escaped b (within.Inside p) s = absurd s
step_valid (within.Inside p) b onward s = subst IsValid s.2 (part_valid p.more)

-- ---- a byte before a text

ascii_before : (b : ℕ) (text : List ℕ) → b < 128 → IsUtf8 text → IsUtf8 (b ∷ text)
ascii_before b text low utf8 =
    IsUtf8-append (b ∷ []) text (of_one (b ∷ []) 0 (omega arith) low) utf8

plain_slash : (text : List ℕ) → added within.Between 92 ++ text ≡ text
plain_slash text = refl

-- a byte that isn't a backslash stands for itself
adds_itself : (b : ℕ) → nat_eq b 92 ≡ false → added within.Between b ≡ b ∷ []
adds_itself b slash = ap (λ (t : Bool). if t then [] else b ∷ []) slash

escapes_itself : (b : ℕ) (text : List ℕ) → nat_eq b 92 ≡ false
    → to_quote (b ∷ text) ≡ b ∷ to_quote text
escapes_itself b text slash =
    ap (λ (t : Bool). ((if t then 92 ∷ 92 ∷ [] else b ∷ []) ++ flat_map escaped_byte text)
    ++ codes "\"") slash

high_other : (b c : ℕ) → 128 ≤ b → c < 128 → nat_eq b c ≡ false
high_other b c high low = grind (arith, nat_tests)

after_slash : (text : List ℕ) → GoodAt within.Escaped text → GoodAt within.Between text
after_slash [] g = absurd g.is_after
after_slash (b ∷ text) g =
    record { utf8 = g.utf8; is_after = tt; plain = g.plain }

slash_spelled : (text : List ℕ) → IsAfter within.Escaped text
    → to_quote text ≡ 92 ∷ spelled_at within.Escaped text
slash_spelled [] h = absurd h
slash_spelled (b ∷ text) h =
    ap (λ z. to_quote (z ∷ text)) h ∙ ap (λ z. 92 ∷ z ∷ to_quote text) (sym h)

-- the rest of a character is a text at the place after one of its bytes
part_text : (more : ℕ) (onward : Within) (text : List ℕ) → after_part more ≡ onward
    → GoodAt onward text → IsTextAt (after_part more) text
part_text more onward text e g = subst (λ (z : Within). IsTextAt z text) (sym e) g.utf8

part_spelled : (more : ℕ) (text : List ℕ) → spelled_at (after_part more) text ≡ to_quote text
part_spelled zero text = refl
part_spelled (suc more) text = refl

step_good : (place : Within) (b : ℕ) (onward : Within) (text : List ℕ) → IsValid place
    → ends place b ≡ false → IsStep place b onward → GoodAt onward text
    → GoodAt place (added place b ++ text)
step_good within.Between b within.Escaped text v end s g =
    subst (GoodAt within.Between)
    (sym (ap (λ z. added within.Between z ++ text) s ∙ plain_slash text)) (after_slash text g)
step_good within.Between b within.Between text v end s g =
    subst (λ front. GoodAt within.Between (front ++ text)) (sym (adds_itself b s.0)) here
  where
    here : GoodAt within.Between (b ∷ text)
    here = record {
      utf8 = ascii_before b text s.1 g.utf8;
      is_after = tt;
      plain = (end, g.plain);
    }
step_good within.Between b (within.Inside p) text v end s g =
    subst (λ front. GoodAt within.Between (front ++ text)) (sym (adds_itself b s.0)) here
  where
    here : GoodAt within.Between (b ∷ text)
    here = record {
      utf8 = wide b p text s.2 g.utf8;
      is_after = tt;
      plain = (end, g.plain);
    }
step_good within.Escaped b within.Between text v end s g = record {
  utf8 = ascii_before b text (omega (arith, s)) g.utf8;
  is_after = s;
  plain = (ap (λ z. nat_eq z 34) s, g.plain);
}
step_good within.Escaped b within.Escaped text v end s g = absurd s
step_good within.Escaped b (within.Inside p) text v end s g = absurd s
step_good (within.Inside p) b onward text v end s g = record {
  utf8 = inside_more p.more p.low p.high b text s.0 s.1 (part_text p.more onward text s.2 g);
  is_after = tt;
  plain = (high_other b 34 (omega (arith, v.0, s.0)) (omega arith), g.plain);
}

step_spelled : (place : Within) (b : ℕ) (onward : Within) (text : List ℕ) → IsValid place
    → IsStep place b onward → IsAfter onward text
    → spelled_at place (added place b ++ text) ≡ b ∷ spelled_at onward text
step_spelled within.Between b within.Escaped text v s h =
    ap (λ z. to_quote (added within.Between z ++ text)) s ∙ slash_spelled text h
    ∙ ap (λ z. z ∷ spelled_at within.Escaped text) (sym s)
step_spelled within.Between b within.Between text v s h =
    ap (λ front. to_quote (front ++ text)) (adds_itself b s.0) ∙ escapes_itself b text s.0
step_spelled within.Between b (within.Inside p) text v s h =
    ap (λ front. to_quote (front ++ text)) (adds_itself b s.0) ∙ escapes_itself b text s.0
step_spelled within.Escaped b within.Between text v s h = refl
step_spelled within.Escaped b within.Escaped text v s h = absurd s
step_spelled within.Escaped b (within.Inside p) text v s h = absurd s
step_spelled (within.Inside p) b onward text v s h =
    escapes_itself b text (high_other b 92 (omega (arith, v.0, s.0)) (omega arith))
    ∙ ap (λ z. b ∷ z) (sym (part_spelled p.more text))
    ∙ ap (λ (z : Within). b ∷ spelled_at z text) s.2

-- ---- what is read at each byte

text_nothing : (place : Within) → text_at place [] ≡ Err 0
unfolding text_at
text_nothing place = refl

text_ends : (place : Within) (b : ℕ) (bytes : List ℕ) → ends place b ≡ true
    → text_at place (b ∷ bytes) ≡ given [] bytes
unfolding text_at
text_ends place b bytes h = rw h refl

text_step : (place : Within) (b : ℕ) (onward : Within) (bytes : List ℕ) → ends place b ≡ false
    → after_byte place b ≡ Some onward
    → text_at place (b ∷ bytes) ≡ with_front (added place b) (text_at onward bytes)
unfolding text_at
text_step place b onward bytes h e = rw (h, e) refl

text_wrong : (place : Within) (b : ℕ) (bytes : List ℕ) → ends place b ≡ false
    → after_byte place b ≡ None → text_at place (b ∷ bytes) ≡ Err (suc (length bytes))
unfolding text_at
text_wrong place b bytes h e = rw (h, e) refl

quote_is : (place : Within) (b : ℕ) → ends place b ≡ true → (place ≡ within.Between) × (b ≡ 34)
quote_is within.Between b h = (refl, eqb-true b 34 h)
quote_is within.Escaped b h = let never : ⊥ = cc in absurd never
quote_is (within.Inside p) b h = let never : ⊥ = cc in absurd never

-- ---- what is taken

record Taken (place : Within) (bytes text rest : List ℕ) : Type 0 where
  splits : bytes ≡ spelled_at place text ++ rest
  good : GoodAt place text

nothing_good : GoodAt within.Between []
nothing_good = record { utf8 = IsUtf8-nil; is_after = tt; plain = tt }

byte_takes : (t : Bool) (o : Option Within) (place : Within) (b : ℕ) (bytes text rest : List ℕ)
    → IsValid place → ends place b ≡ t → after_byte place b ≡ o
    → text_at place (b ∷ bytes) ≡ given text rest
    → ((onward : Within) (text : List ℕ) → IsValid onward → text_at onward bytes ≡ given text rest
    → Taken onward bytes text rest)
    → Taken place (b ∷ bytes) text rest
byte_takes true o place b bytes text rest v end after e more =
    let is = quote_is place b end in
    let same = given_is [] text bytes rest (sym (text_ends place b bytes end) ∙ e) in
    let took : Taken within.Between (34 ∷ bytes) [] bytes =
    record { splits = refl; good = nothing_good } in
    let here : Taken place (b ∷ bytes) [] bytes =
    subst (λ (z : Within). Taken z (b ∷ bytes) [] bytes) (sym is.0)
    (subst (λ z. Taken within.Between (z ∷ bytes) [] bytes) (sym is.1) took) in
    let moved : Taken place (b ∷ bytes) [] rest =
    subst (λ z. Taken place (b ∷ bytes) [] z) same.1 here in
    subst (λ z. Taken place (b ∷ bytes) z rest) same.0 moved
byte_takes false None place b bytes text rest v end after e more =
    let no = sym (text_wrong place b bytes end after) ∙ e in
    let never : ⊥ = cc in absurd never
byte_takes false (Some onward) place b bytes text rest v end after e more =
    let f = front_is (added place b) (text_at onward bytes) text rest
    (sym (text_step place b onward bytes end after) ∙ e) in
    let s = step_of place b onward after in
    let took = more onward f.0 (step_valid place b onward s) f.1 in
    let here : Taken place (b ∷ bytes) (added place b ++ f.0) rest = record {
      splits =
          ap (λ z. b ∷ z) took.splits
          ∙ ap (λ z. z ++ rest)
          (sym (step_spelled place b onward f.0 v s took.good.is_after));
      good = step_good place b onward f.0 v end s took.good;
    } in
    subst (λ z. Taken place (b ∷ bytes) z rest) f.2 here

text_takes : (place : Within) (bytes text rest : List ℕ) → IsValid place
    → text_at place bytes ≡ given text rest → Taken place bytes text rest
text_takes place [] text rest v e =
    let no = sym (text_nothing place) ∙ e in
    let never : ⊥ = cc in absurd never
text_takes place (b ∷ bytes) text rest v e =
    byte_takes (ends place b) (after_byte place b) place b bytes text rest v refl refl e
    (λ onward text. text_takes onward bytes text rest)

-- ---- where it stops

record TextStop (place : Within) (bytes : List ℕ) (n : ℕ) : Type 0 where
  front : List ℕ
  back : List ℕ
  splits : bytes ≡ front ++ back
  left : length back ≡ n
  whole : List ℕ
  good : GoodAt place whole
  more : List ℕ
  begun_is : spelled_at place whole ≡ front ++ more
  wrong : (b : ℕ) (bs others : List ℕ) → back ≡ b ∷ bs
      → text_at place (front ++ b ∷ others) ≡ Err (length (b ∷ others))

-- the rest of a character
abbrev fill : ℕ → ℕ → List ℕ
fill low zero = low ∷ []
fill low (suc more) = low ∷ fill 128 more

fill_text : (low high more : ℕ) → low ≤ high → InCharacter low high more (fill low more)
unfolding InCharacter
fill_text low high zero range = (omega arith, range, IsUtf8-nil)
fill_text low high (suc more) range =
    (omega arith, range, fill_text 128 191 more (omega arith))

fill_plain : (low more : ℕ) → 128 ≤ low → Plain (fill low more)
fill_plain low zero high = (high_other low 34 high (omega arith), tt)
fill_plain low (suc more) high =
    (high_other low 34 high (omega arith), fill_plain 128 more (omega arith))

-- a text that goes on at a place
record Completed (place : Within) : Type 0 where
  text : List ℕ
  good : GoodAt place text

completed : (place : Within) → IsValid place → Completed place
completed within.Between v = record { text = []; good = nothing_good }
completed within.Escaped v =
    record {
      text = 92 ∷ [];
      good = record {
        utf8 = ascii_before 92 [] (omega arith) IsUtf8-nil;
        is_after = refl;
        plain = (refl, tt);
      };
    }
completed (within.Inside p) v =
    record {
      text = fill p.low p.more;
      good = record {
        utf8 = fill_text p.low p.high p.more v.1;
        is_after = tt;
        plain = fill_plain p.low p.more v.0;
      };
    }

front_err : (front : List ℕ) (m : Read (List ℕ)) (n : ℕ) → with_front front m ≡ Err n → m ≡ Err n
front_err front (Ok p) n e = let never : ⊥ = cc in absurd never
front_err front (Err k) n e =
    let same : k ≡ n = cc in ap (λ (j : ℕ). let m : Read (List ℕ) = Err j in m) same

byte_stops : (t : Bool) (o : Option Within) (place : Within) (b : ℕ) (bytes : List ℕ) (n : ℕ)
    → IsValid place → ends place b ≡ t → after_byte place b ≡ o
    → text_at place (b ∷ bytes) ≡ Err n
    → ((onward : Within) → IsValid onward → text_at onward bytes ≡ Err n → TextStop onward bytes n)
    → TextStop place (b ∷ bytes) n
byte_stops true o place b bytes n v end after e more =
    let no = sym (text_ends place b bytes end) ∙ e in
    let never : ⊥ = cc in absurd never
byte_stops false None place b bytes n v end after e more =
    let c = completed place v in
    let left : suc (length bytes) ≡ n =
    let both = sym (text_wrong place b bytes end after) ∙ e in cc in
    record {
      front = [];
      back = b ∷ bytes;
      splits = refl;
      left = left;
      whole = c.text;
      good = c.good;
      more = spelled_at place c.text;
      begun_is = refl;
      wrong = λ z zs others i.
          let same : b ≡ z = cc i in
          ap (λ y. text_at place (y ∷ others)) (sym same) ∙ text_wrong place b others end after;
    }
byte_stops false (Some onward) place b bytes n v end after e more =
    let s = step_of place b onward after in
    let st = more onward (step_valid place b onward s)
    (front_err (added place b) (text_at onward bytes) n
    (sym (text_step place b onward bytes end after) ∙ e)) in
    record {
      front = b ∷ st.front;
      back = st.back;
      splits = ap (λ z. b ∷ z) st.splits;
      left = st.left;
      whole = added place b ++ st.whole;
      good = step_good place b onward st.whole v end s st.good;
      more = st.more;
      begun_is =
          step_spelled place b onward st.whole v s st.good.is_after
          ∙ ap (λ z. b ∷ z) st.begun_is;
      wrong = λ z zs others i.
          text_step place b onward (st.front ++ z ∷ others) end after
          ∙ ap (with_front (added place b)) (st.wrong z zs others i);
    }

text_stops : (place : Within) (bytes : List ℕ) (n : ℕ) → IsValid place
    → text_at place bytes ≡ Err n → TextStop place bytes n
text_stops place [] n v e =
    let c = completed place v in
    let left : 0 ≡ n = let both = sym (text_nothing place) ∙ e in cc in
    record {
      front = [];
      back = [];
      splits = refl;
      left = left;
      whole = c.text;
      good = c.good;
      more = spelled_at place c.text;
      begun_is = refl;
      wrong = λ b bs others i. let never : ⊥ = cc i in absurd never;
    }
text_stops place (b ∷ bytes) n v e =
    byte_stops (ends place b) (after_byte place b) place b bytes n v refl refl e
    (λ onward. text_stops onward bytes n)

-- ---- each text is read

first_two : (b : ℕ) → 194 ≤ b → b ≤ 223 → after_first b ≡ Some (some_pending 0x80 0xBF 0)
first_two b low high =
    let f1 : nat_lt b 0xC2 ≡ false = grind (arith, nat_tests) in
    let f2 : nat_le b 0xDF ≡ true = grind (arith, nat_tests) in
    rw (f1, f2) refl

first_three : (b : ℕ) → 225 ≤ b → b ≤ 239 → nat_eq b 0xED ≡ false
    → after_first b ≡ Some (some_pending 0x80 0xBF 1)
first_three b low high other =
    let f1 : nat_lt b 0xC2 ≡ false = grind (arith, nat_tests) in
    let f2 : nat_le b 0xDF ≡ false = grind (arith, nat_tests) in
    let f3 : nat_eq b 0xE0 ≡ false = grind (arith, nat_tests) in
    let f4 : nat_le b 0xEF ≡ true = grind (arith, nat_tests) in
    rw (f1, f2, f3, other, f4) refl

first_four : (b : ℕ) → 241 ≤ b → b ≤ 243 → after_first b ≡ Some (some_pending 0x80 0xBF 2)
first_four b low high =
    let f1 : nat_lt b 0xC2 ≡ false = grind (arith, nat_tests) in
    let f2 : nat_le b 0xDF ≡ false = grind (arith, nat_tests) in
    let f3 : nat_eq b 0xE0 ≡ false = grind (arith, nat_tests) in
    let f4 : nat_eq b 0xED ≡ false = grind (arith, nat_tests) in
    let f5 : nat_le b 0xEF ≡ false = grind (arith, nat_tests) in
    let f6 : nat_eq b 0xF0 ≡ false = grind (arith, nat_tests) in
    let f7 : nat_le b 0xF3 ≡ true = grind (arith, nat_tests) in
    rw (f1, f2, f3, f4, f5, f6, f7) refl

-- a first byte of several, and the rest of its character
record Leads (b : ℕ) (text : List ℕ) : Type 0 where
  pending : Pending
  first : after_first b ≡ Some pending
  high : 128 ≤ b
  rest : InCharacter pending.low pending.high pending.more text

leads_two : (c : ℕ) (text : List ℕ) → 128 ≤ c → c < 2048 → IsUtf8 text
    → Leads (192 + c / 64) (next c ∷ text)
unfolding InCharacter
leads_two c text low high utf8 = record {
  pending = some_pending 0x80 0xBF 0;
  first = first_two (192 + c / 64) (omega arith) (omega arith);
  high = omega arith;
  rest = (omega arith, omega arith, utf8);
}

leads_three_at : (c : ℕ) (text : List ℕ) (t u : Bool) → 2048 ≤ c → c < 65536
    → (c < 55296) ⊎ (57344 ≤ c) → IsUtf8 text → nat_eq (224 + c / 4096) 224 ≡ t
    → nat_eq (224 + c / 4096) 237 ≡ u
    → Leads (224 + c / 4096) (next (c / 64) ∷ next c ∷ text)
unfolding InCharacter
leads_three_at c text true u low high range utf8 first last =
    let is : 224 + c / 4096 ≡ 224 = eqb-true (224 + c / 4096) 224 first in
    record {
      pending = some_pending 0xA0 0xBF 1;
      first = ap after_first is;
      high = omega arith;
      rest = (omega (arith, is, low), omega arith, (omega arith, omega arith, utf8));
    }
leads_three_at c text false true low high (inl below) utf8 first last =
    let is : 224 + c / 4096 ≡ 237 = eqb-true (224 + c / 4096) 237 last in
    record {
      pending = some_pending 0x80 0x9F 1;
      first = ap after_first is;
      high = omega arith;
      rest = (omega arith, omega (arith, is, below), (omega arith, omega arith, utf8));
    }
leads_three_at c text false true low high (inr above) utf8 first last =
    let is : 224 + c / 4096 ≡ 237 = eqb-true (224 + c / 4096) 237 last in
    let never : ⊥ = omega (arith, is, above) in absurd never
leads_three_at c text false false low high range utf8 first last =
    let past : 225 ≤ 224 + c / 4096 = grind (arith, nat_tests) in
    record {
      pending = some_pending 0x80 0xBF 1;
      first = first_three (224 + c / 4096) past (omega (arith, high)) last;
      high = omega arith;
      rest = (omega arith, omega arith, (omega arith, omega arith, utf8));
    }

leads_four_at : (c : ℕ) (text : List ℕ) (t u : Bool) → 65536 ≤ c → c < 1114112 → IsUtf8 text
    → nat_eq (240 + c / 262144) 240 ≡ t → nat_eq (240 + c / 262144) 244 ≡ u
    → Leads (240 + c / 262144) (next (c / 4096) ∷ next (c / 64) ∷ next c ∷ text)
unfolding InCharacter
leads_four_at c text true u low high utf8 first last =
    let is : 240 + c / 262144 ≡ 240 = eqb-true (240 + c / 262144) 240 first in
    record {
      pending = some_pending 0x90 0xBF 2;
      first = ap after_first is;
      high = omega arith;
      rest = (
        omega (arith, is, low),
        omega arith,
        (omega arith, omega arith, (omega arith, omega arith, utf8)),
      );
    }
leads_four_at c text false true low high utf8 first last =
    let is : 240 + c / 262144 ≡ 244 = eqb-true (240 + c / 262144) 244 last in
    record {
      pending = some_pending 0x80 0x8F 2;
      first = ap after_first is;
      high = omega arith;
      rest = (
        omega arith,
        omega (arith, is, high),
        (omega arith, omega arith, (omega arith, omega arith, utf8)),
      );
    }
leads_four_at c text false false low high utf8 first last =
    let past : 241 ≤ 240 + c / 262144 = grind (arith, nat_tests) in
    let under : 240 + c / 262144 ≤ 244 = omega (arith, high) in
    let below : 240 + c / 262144 ≤ 243 = grind (arith, nat_tests) in
    record {
      pending = some_pending 0x80 0xBF 2;
      first = first_four (240 + c / 262144) past below;
      high = omega arith;
      rest = (
        omega arith,
        omega arith,
        (omega arith, omega arith, (omega arith, omega arith, utf8)),
      );
    }

-- the first byte of a text, and what comes after it
abbrev Opened : ℕ → List ℕ → Type 0
Opened b text = ((b < 128) × IsUtf8 text) ⊎ Leads b text

opened_at : (c : ℕ) (cs : List ℕ) (b : ℕ) (text bytes : List ℕ) → bytes ≡ b ∷ text
    → Opened c cs → c ∷ cs ≡ bytes → Opened b text
opened_at c cs b text bytes is o e =
    let all : c ∷ cs ≡ b ∷ text = e ∙ is in
    let same : c ≡ b = cc in
    let others : cs ≡ text = cc in
    subst (λ z. Opened z text) same (subst (Opened c) others o)

char_opened : (c : ℕ) (cs : List ℕ) (b : ℕ) (text : List ℕ) → scalar c ≡ true
    → IsUtf8 cs → encode c ++ cs ≡ b ∷ text → Opened b text
char_opened c cs b text is utf8 e =
    elim (cases_lt c 128) [
      | inl ascii ↦
          opened_at c cs b text (b ∷ text) refl (inl (ascii, utf8))
          (ap (λ z. z ++ cs) (sym (one c ascii)) ∙ e)
      | inr large ↦ elim (cases_lt c 2048) [
        | inl small ↦
            opened_at (192 + c / 64) (next c ∷ cs) b text (b ∷ text) refl
            (inr (leads_two c cs large small utf8))
            (ap (λ z. z ++ cs) (sym (two c large small)) ∙ e)
        | inr more ↦ elim (cases_lt c 65536) [
          | inl middle ↦
              opened_at (224 + c / 4096) (next (c / 64) ∷ next c ∷ cs) b text (b ∷ text) refl
              (inr (leads_three_at c cs (nat_eq (224 + c / 4096) 224)
              (nat_eq (224 + c / 4096) 237) more middle (no_surrogate (scalar_cases c is)) utf8 refl
              refl))
              (ap (λ z. z ++ cs) (sym (three c more middle)) ∙ e)
          | inr most ↦
              opened_at (240 + c / 262144) (next (c / 4096) ∷ next (c / 64) ∷ next c ∷ cs) b text
              (b ∷ text) refl
              (inr (leads_four_at c cs (nat_eq (240 + c / 262144) 240)
              (nat_eq (240 + c / 262144) 244) most (in_range (scalar_cases c is)) utf8 refl refl))
              (ap (λ z. z ++ cs) (sym (four c most)) ∙ e)
        ]
      ]
    ]
  where
    no_surrogate : (c < 55296) ⊎ ((57344 ≤ c) × (c < 1114112)) → (c < 55296) ⊎ (57344 ≤ c)
    no_surrogate (inl low) = inl low
    no_surrogate (inr high) = inr high.0

    in_range : (c < 55296) ⊎ ((57344 ≤ c) × (c < 1114112)) → c < 1114112
    in_range (inl low) = omega (arith, low)
    in_range (inr high) = high.1

opened : (b : ℕ) (text : List ℕ) → IsUtf8 (b ∷ text) → Opened b text
opened b text utf8 = by utf8.0 utf8.1.0 utf8.1.1
  where
    by : (cs : List ℕ) → scalars cs ≡ true → encodes cs ≡ b ∷ text → Opened b text
    by [] s e = let never : ⊥ = cc in absurd never
    by (c ∷ cs) s e =
        let both = and_true (scalar c) (scalars cs) s in
        char_opened c (encodes cs) b text both.0 (cs, (both.1, refl)) e

begun_ascii_is : (b : ℕ) → nat_eq b 92 ≡ false → b < 128
    → after_byte within.Between b ≡ Some within.Between
begun_ascii_is b slash low =
    let f : nat_lt b 128 ≡ true = grind (arith, nat_tests) in rw (slash, f) refl

begun_wide_is : (b : ℕ) (p : Pending) → 128 ≤ b → after_first b ≡ Some p
    → after_byte within.Between b ≡ Some (within.Inside p)
begun_wide_is b p high first =
    let slash : nat_eq b 92 ≡ false = high_other b 92 high (omega arith) in
    let f : nat_lt b 128 ≡ false = grind (arith, nat_tests) in rw (slash, f, first) refl

inside_is : (p : Pending) (b : ℕ) → p.low ≤ b → b ≤ p.high
    → after_byte (within.Inside p) b ≡ Some (after_part p.more)
inside_is p b low high =
    ap (λ (t : Bool). if t then Some (after_part p.more) else None)
    (true_and (nat_le p.low b) (nat_le b p.high) (le-leb p.low b low) (le-leb b p.high high))

-- a byte that stands for itself, and then a text
byte_again : (place onward : Within) (b : ℕ) (text rest : List ℕ) → IsValid place
    → added place b ≡ b ∷ [] → ends place b ≡ false → after_byte place b ≡ Some onward
    → IsAfter onward text → text_at onward (spelled_at onward text ++ rest) ≡ given text rest
    → text_at place (spelled_at place (b ∷ text) ++ rest) ≡ given (b ∷ text) rest
byte_again place onward b text rest v adds end after h further =
    ap (λ z. text_at place (z ++ rest))
    (ap (λ front. spelled_at place (front ++ text)) (sym adds)
    ∙ step_spelled place b onward text v (step_of place b onward after) h)
    ∙ text_step place b onward (spelled_at onward text ++ rest) end after
    ∙ ap (λ front. with_front front (text_at onward (spelled_at onward text ++ rest))) adds
    ∙ ap (with_front (b ∷ [])) further

slash_again : (b : ℕ) (text rest : List ℕ) → b ≡ 92
    → text_at within.Between (to_quote text ++ rest) ≡ given text rest
    → text_at within.Between (to_quote (b ∷ text) ++ rest) ≡ given (b ∷ text) rest
slash_again b text rest is further =
    subst (λ z. text_at within.Between (to_quote (z ∷ text) ++ rest) ≡ given (z ∷ text) rest)
    (sym is)
    (text_step within.Between 92 within.Escaped (92 ∷ (to_quote text ++ rest)) refl refl
    ∙ ap (with_front [])
    (text_step within.Escaped 92 within.Between (to_quote text ++ rest) refl refl
    ∙ ap (with_front (92 ∷ [])) further))

-- a text is read, and so is the rest of a character and a text
record Back (text rest : List ℕ) : Type 0 where
  between : IsUtf8 text → text_at within.Between (to_quote text ++ rest) ≡ given text rest
  inside : (p : Pending) → IsValid (within.Inside p)
      → InCharacter p.low p.high p.more text
      → text_at (within.Inside p) (to_quote text ++ rest) ≡ given text rest

opened_again : (b : ℕ) (text rest : List ℕ) (t : Bool) → Plain (b ∷ text) → nat_eq b 92 ≡ t
    → Opened b text → Back text rest
    → text_at within.Between (to_quote (b ∷ text) ++ rest) ≡ given (b ∷ text) rest
opened_again b text rest true plain slash (inl ascii) back =
    slash_again b text rest (eqb-true b 92 slash) (back.between ascii.1)
opened_again b text rest true plain slash (inr leads) back =
    let is = eqb-true b 92 slash in
    let never : ⊥ = omega (arith, is, leads.high) in absurd never
opened_again b text rest false plain slash (inl ascii) back =
    byte_again within.Between within.Between b text rest tt (adds_itself b slash) plain.0
    (begun_ascii_is b slash ascii.0) tt (back.between ascii.1)
opened_again b text rest false plain slash (inr leads) back =
    let p = leads.pending in
    byte_again within.Between (within.Inside p) b text rest tt (adds_itself b slash) plain.0
    (begun_wide_is b p leads.high leads.first) tt
    (back.inside p (first_valid b p leads.first) leads.rest)

inside_again : (low high more b : ℕ) (text rest : List ℕ)
    → IsValid (within.Inside (some_pending low high more)) → InCharacter low high more (b ∷ text)
    → Back text rest
    → text_at (within.Inside (some_pending low high more)) (to_quote (b ∷ text) ++ rest)
    ≡ given (b ∷ text) rest
unfolding InCharacter
inside_again low high zero b text rest v c back =
    let p = some_pending low high zero in
    byte_again (within.Inside p) within.Between b text rest v refl refl
    (inside_is p b c.0 c.1) tt (back.between c.2)
inside_again low high (suc more) b text rest v c back =
    let p = some_pending low high (suc more) in
    byte_again (within.Inside p) (after_part (suc more)) b text rest v refl refl
    (inside_is p b c.0 c.1) tt
    (back.inside (some_pending 128 191 more) (omega arith, omega arith, omega arith) c.2)

no_character : (low high more : ℕ) → InCharacter low high more [] → ⊥
unfolding InCharacter
no_character low high zero c = c
no_character low high (suc more) c = c

back : (text rest : List ℕ) → Plain text → Back text rest
back [] rest plain = record {
  between = λ utf8. text_ends within.Between 34 rest refl;
  inside = λ p v c. absurd (no_character p.low p.high p.more c);
}
back (b ∷ text) rest plain =
    let others = back text rest plain.1 in
    record {
      between = λ utf8.
          opened_again b text rest (nat_eq b 92) plain refl (opened b text utf8) others;
      inside = λ p v c. inside_again p.low p.high p.more b text rest v c others;
    }

between_again : (text rest : List ℕ) → IsUtf8 text → Plain text
    → text_at within.Between (to_quote text ++ rest) ≡ given text rest
between_again text rest utf8 plain = (back text rest plain).between utf8

-- ---- names

-- the bytes of a name after its first quote
abbrev pub IsText : List ℕ → Type 0
IsText text = IsUtf8 text × Plain text

pub text_reads : Reads always (text_at within.Between) to_quote IsText
text_reads = record {
  again = λ text rest g ends. between_again text rest g.0 g.1;
  takes = λ bytes text rest e.
      let a = text_takes within.Between bytes text rest tt e in
      record {
        splits = a.splits;
        good = (a.good.utf8, a.good.plain);
        alike = λ b bs others i. between_again text (b ∷ others) a.good.utf8 a.good.plain;
      };
  stops = λ bytes n e.
      let st = text_stops within.Between bytes n tt e in
      record {
        front = st.front;
        back = st.back;
        splits = st.splits;
        left = st.left;
        whole = st.whole;
        good = (st.good.utf8, st.good.plain);
        more = st.more;
        begun = st.begun_is;
        wrong = st.wrong;
      };
  some = [];
  is_some = (IsUtf8-nil, tt);
}
