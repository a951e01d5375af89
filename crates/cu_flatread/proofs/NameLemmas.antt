-- Laws on quoted names: what is read between quotes is UTF-8.
use Rattle.std.proofs.Common.{◌≡◌, ℕ, zero, suc, ◌+◌, ◌-◌, ◌*◌, ◌≤◌, ◌<◌, ◌⊎◌, inl, inr, Bool, true, false, ◌&&◌, List, [], ◌∷◌, ◌++◌, Option, None, Some, Ok, Err, if◌then◌else◌, length, nat_eq, nat_le, nat_lt, refl, sym, ap, subst, arith, eqb-true, leb-true, leb-false, eq-eqb, ltb-true, ltb-false}
use Rattle.std.proofs.lemmas.Bool.{cases_lt}
use Rattle.std.proofs.lemmas.Str.{IsUtf8-append, IsUtf8-nil}
use Rattle.std.specs.Str.{IsUtf8}
use Rattle.std.proofs.str.Valid.{of_one, of_two, of_three, of_four}
use Rattle.cu_flatread.proofs.DecimalLemmas.{and_true, given, given_is}
use Rattle.cu_flatread.specs.Inside.Names.{added, after_first, after_part, begun, begun_by, text_at, text_from, with_front}
use Rattle.cu_flatread.specs.Inside.Words.{Read}
use Rattle.cu_flatread.specs.declared.quoted.Pending.{Pending}
use Rattle.cu_flatread.specs.declared.quoted.Within.{Within}
use Rattle.cu_flatread.specs.declared.quoted.Within.TheVariants as within

-- the rest of a character, and a text after it
unfoldable pub InCharacter : ℕ → ℕ → ℕ → List ℕ → Type 0
InCharacter low high more [] = ⊥
InCharacter low high zero (b ∷ text) = (low ≤ b) × (b ≤ high) × IsUtf8 text
InCharacter low high (suc more) (b ∷ text) = (low ≤ b) × (b ≤ high) × InCharacter 0x80 0xBF more text

-- what a text is where reading it begins at some place
abbrev pub IsTextAt : Within → List ℕ → Type 0
IsTextAt within.Between text = IsUtf8 text
IsTextAt within.Escaped text = IsUtf8 text
IsTextAt (within.Inside p) text = InCharacter p.low p.high p.more text

pub front_is : (front : List ℕ) (read : Read (List ℕ)) (text rest : List ℕ)
    → with_front front read ≡ given text rest
    → (t : List ℕ) × (read ≡ given t rest) × (front ++ t ≡ text)
front_is front (Ok x) text rest e =
    let same = given_is (front ++ x.0) text x.1 rest e in
    (x.0, ap (λ r. given x.0 r) same.1, same.0)
front_is front (Err left) text rest e = let no : ⊥ = cc in absurd no

pub chosen : {X : Type 0} (t : Bool) (x y z : X) → (if t then x else y) ≡ z
    → ((t ≡ true) × (x ≡ z)) ⊎ ((t ≡ false) × (y ≡ z))
chosen true x y z e = inl (refl, e)
chosen false x y z e = inr (refl, e)

pub some_is : (p q : Pending) → Some p ≡ Some q → p ≡ q
some_is p q e = cc

abbrev pub some_pending : ℕ → ℕ → ℕ → Pending
some_pending low high more = record { low = low; high = high; more = more }

differs : (b c : ℕ) → nat_eq b c ≡ false → b ≡ c → ⊥
differs b c e same =
    let t : nat_eq b c ≡ true = eq-eqb b c same in
    let no : ⊥ = cc in absurd no

-- a number that isn't the least of those from one on
pub above : (b c : ℕ) → nat_eq b c ≡ false → c ≤ b → c < b
above b c e low =
    elim (cases_lt c b) [ inl more ↦ more | inr less ↦ absurd (differs b c e (omega arith)) ]

-- ---- characters of several bytes

two_bytes : (b : ℕ) (text : List ℕ) → 194 ≤ b → b < 224 → InCharacter 0x80 0xBF 0 text
    → IsUtf8 (b ∷ text)
unfolding InCharacter
two_bytes b [] low high c = absurd c
two_bytes b (x ∷ text) low high c =
    IsUtf8-append (b ∷ x ∷ []) text
    (of_two (b ∷ x ∷ []) 0 (omega arith) (low, high) (c.0, omega (arith, c.1))) c.2

three_bytes : (b first last : ℕ) (text : List ℕ) → 224 ≤ b → b < 240 → 128 ≤ first → last < 192
    → 2048 ≤ (b - 224) * 4096 + (first - 128) * 64
    → ((b - 224) * 4096 + (last - 128) * 64 + 63 < 55296) ⊎ (57344 ≤ (b - 224) * 4096)
    → InCharacter first last 1 text → IsUtf8 (b ∷ text)
unfolding InCharacter
three_bytes b first last [] low high least most over range c = absurd c
three_bytes b first last (x ∷ []) low high least most over range c = absurd c.2
three_bytes b first last (x ∷ y ∷ text) low high least most over (inl below) c =
    IsUtf8-append (b ∷ x ∷ y ∷ []) text
    (of_three (b ∷ x ∷ y ∷ []) 0 (omega arith) (low, high)
    (omega (arith, c.0), omega (arith, c.1)) (c.2.0, omega (arith, c.2.1))
    (omega (arith, c.0)) (inl (omega (arith, c.1, c.2.1)))) c.2.2
three_bytes b first last (x ∷ y ∷ text) low high least most over (inr above) c =
    IsUtf8-append (b ∷ x ∷ y ∷ []) text
    (of_three (b ∷ x ∷ y ∷ []) 0 (omega arith) (low, high)
    (omega (arith, c.0), omega (arith, c.1)) (c.2.0, omega (arith, c.2.1))
    (omega (arith, c.0)) (inr (omega (arith, above)))) c.2.2

four_bytes : (b first last : ℕ) (text : List ℕ) → 240 ≤ b → 128 ≤ first → last < 192
    → 16 ≤ (b - 240) * 64 + (first - 128) → (b - 240) * 64 + (last - 128) < 272
    → InCharacter first last 2 text → IsUtf8 (b ∷ text)
unfolding InCharacter
four_bytes b first last [] low least most over under c = absurd c
four_bytes b first last (x ∷ []) low least most over under c = absurd c.2
four_bytes b first last (x ∷ y ∷ []) low least most over under c = absurd c.2.2
four_bytes b first last (x ∷ y ∷ z ∷ text) low least most over under c =
    IsUtf8-append (b ∷ x ∷ y ∷ z ∷ []) text
    (of_four (b ∷ x ∷ y ∷ z ∷ []) 0 (omega arith) low
    (omega (arith, c.0), omega (arith, c.1)) (c.2.0, omega (arith, c.2.1))
    (c.2.2.0, omega (arith, c.2.2.1)) (omega (arith, c.0), omega (arith, c.1))) c.2.2.2

-- a first byte, and the rest of its character before a text
pub wide : (b : ℕ) (p : Pending) (text : List ℕ) → after_first b ≡ Some p
    → InCharacter p.low p.high p.more text → IsUtf8 (b ∷ text)
wide b p text e c =
    elim (chosen (nat_lt b 0xC2) None _ (Some p) e) [
      | inl a ↦ let no : ⊥ = cc in absurd no
      | inr a ↦ elim (chosen (nat_le b 0xDF) (Some (some_pending 0x80 0xBF 0)) _ (Some p) a.1) [
        | inl two ↦ two_bytes b text (omega (arith, ltb-false b 0xC2 a.0)) (omega (arith, leb-true b 0xDF two.0))
            (subst (λ (q : Pending). InCharacter q.low q.high q.more text) (sym (some_is _ p two.1)) c)
        | inr d ↦ elim (chosen (nat_eq b 0xE0) (Some (some_pending 0xA0 0xBF 1)) _ (Some p) d.1) [
          | inl three ↦ let is = eqb-true b 0xE0 three.0 in
              three_bytes b 0xA0 0xBF text (omega (arith, is)) (omega (arith, is)) (omega arith) (omega arith) (omega (arith, is)) (inl (omega (arith, is)))
              (subst (λ (q : Pending). InCharacter q.low q.high q.more text) (sym (some_is _ p three.1)) c)
          | inr f ↦ elim (chosen (nat_eq b 0xED) (Some (some_pending 0x80 0x9F 1)) _ (Some p) f.1) [
            | inl three ↦ let is = eqb-true b 0xED three.0 in
                three_bytes b 0x80 0x9F text (omega (arith, is)) (omega (arith, is)) (omega arith) (omega arith) (omega (arith, is)) (inl (omega (arith, is)))
                (subst (λ (q : Pending). InCharacter q.low q.high q.more text) (sym (some_is _ p three.1)) c)
            | inr g ↦ elim (chosen (nat_le b 0xEF) (Some (some_pending 0x80 0xBF 1)) _ (Some p) g.1) [
              | inl three ↦
                  let low = leb-false b 0xDF d.0 in
                  let top = leb-true b 0xEF three.0 in
                  let past = above b 0xE0 f.0 (omega (arith, low)) in
                  let d = (subst (λ (q : Pending). InCharacter q.low q.high q.more text) (sym (some_is _ p three.1)) c) in
                  elim (cases_lt b 0xED) [
                    | inl less ↦ three_bytes b 0x80 0xBF text (omega (arith, low)) (omega (arith, top))
                        (omega arith) (omega arith) (omega (arith, past)) (inl (omega (arith, less))) d
                    | inr more ↦ three_bytes b 0x80 0xBF text (omega (arith, low)) (omega (arith, top))
                        (omega arith) (omega arith) (omega (arith, past))
                        (inr (omega (arith, above b 0xED g.0 more))) d
                  ]
              | inr h ↦ elim (chosen (nat_eq b 0xF0) (Some (some_pending 0x90 0xBF 2)) _ (Some p) h.1) [
                | inl four ↦ let is = eqb-true b 0xF0 four.0 in
                    four_bytes b 0x90 0xBF text (omega (arith, is)) (omega arith) (omega arith) (omega (arith, is)) (omega (arith, is))
                    (subst (λ (q : Pending). InCharacter q.low q.high q.more text) (sym (some_is _ p four.1)) c)
                | inr j ↦ elim (chosen (nat_le b 0xF3) (Some (some_pending 0x80 0xBF 2)) _ (Some p) j.1) [
                  | inl four ↦
                      let low = leb-false b 0xEF h.0 in
                      let top = leb-true b 0xF3 four.0 in
                      let past = above b 0xF0 j.0 (omega (arith, low)) in
                      four_bytes b 0x80 0xBF text (omega (arith, low)) (omega arith) (omega arith)
                      (omega (arith, past)) (omega (arith, top)) (subst (λ (q : Pending). InCharacter q.low q.high q.more text) (sym (some_is _ p four.1)) c)
                  | inr k ↦ elim (chosen (nat_eq b 0xF4) (Some (some_pending 0x80 0x8F 2)) None (Some p) k.1) [
                    | inl four ↦ let is = eqb-true b 0xF4 four.0 in
                        four_bytes b 0x80 0x8F text (omega (arith, is)) (omega arith) (omega arith) (omega (arith, is)) (omega (arith, is))
                        (subst (λ (q : Pending). InCharacter q.low q.high q.more text) (sym (some_is _ p four.1)) c)
                    | inr m ↦ let no : ⊥ = cc in absurd no
                  ]
                ]
              ]
            ]
          ]
        ]
      ]
    ]

-- ---- texts

begin_wide : (o : Option Pending) (b left : ℕ) (bytes text rest : List ℕ) → after_first b ≡ o
    → ((place : Within) (t : List ℕ) → text_at place bytes ≡ given t rest → IsTextAt place t)
    → text_from (begun_by o) left (λ next. with_front (b ∷ []) (text_at next bytes))
    ≡ given text rest → IsUtf8 text
begin_wide None b left bytes text rest is next e = let no : ⊥ = cc in absurd no
begin_wide (Some p) b left bytes text rest is next e =
    let f = front_is (b ∷ []) (text_at (within.Inside p) bytes) text rest e in
    subst IsUtf8 f.2 (wide b p f.0 is (next (within.Inside p) f.0 f.1))

begin_ascii : (t : Bool) (b left : ℕ) (bytes text rest : List ℕ) → nat_lt b 128 ≡ t
    → ((place : Within) (t : List ℕ) → text_at place bytes ≡ given t rest → IsTextAt place t)
    → text_from (if t then Some within.Between else begun_by (after_first b)) left
    (λ next. with_front (b ∷ []) (text_at next bytes)) ≡ given text rest → IsUtf8 text
begin_ascii true b left bytes text rest is next e =
    let f = front_is (b ∷ []) (text_at within.Between bytes) text rest e in
    subst IsUtf8 f.2
    (IsUtf8-append (b ∷ []) f.0 (of_one (b ∷ []) 0 (omega arith) (ltb-true b 128 is))
    (next within.Between f.0 f.1))
begin_ascii false b left bytes text rest is next e =
    begin_wide (after_first b) b left bytes text rest refl next e

begin_backslash : (t : Bool) (b left : ℕ) (bytes text rest : List ℕ) → nat_eq b 92 ≡ t
    → ((place : Within) (t : List ℕ) → text_at place bytes ≡ given t rest → IsTextAt place t)
    → text_from (if t then Some within.Escaped else
    (if nat_lt b 128 then Some within.Between else begun_by (after_first b))) left
    (λ next. with_front (if t then [] else b ∷ []) (text_at next bytes)) ≡ given text rest
    → IsUtf8 text
begin_backslash true b left bytes text rest is next e =
    let f = front_is [] (text_at within.Escaped bytes) text rest e in
    subst IsUtf8 f.2 (next within.Escaped f.0 f.1)
begin_backslash false b left bytes text rest is next e =
    begin_ascii (nat_lt b 128) b left bytes text rest refl next e

begin_quote : (t : Bool) (b left : ℕ) (bytes text rest : List ℕ)
    → ((place : Within) (t : List ℕ) → text_at place bytes ≡ given t rest → IsTextAt place t)
    → (if t then given [] bytes else text_from (begun b) left
    (λ next. with_front (added within.Between b) (text_at next bytes))) ≡ given text rest
    → IsUtf8 text
begin_quote true b left bytes text rest next e =
    subst IsUtf8 (given_is [] text bytes rest e).0 IsUtf8-nil
begin_quote false b left bytes text rest next e =
    begin_backslash (nat_eq b 92) b left bytes text rest refl next e

after_escape : (t : Bool) (b left : ℕ) (bytes text rest : List ℕ) → nat_eq b 92 ≡ t
    → ((place : Within) (t : List ℕ) → text_at place bytes ≡ given t rest → IsTextAt place t)
    → text_from (if t then Some within.Between else None) left
    (λ next. with_front (b ∷ []) (text_at next bytes)) ≡ given text rest → IsUtf8 text
after_escape true b left bytes text rest is next e =
    let f = front_is (b ∷ []) (text_at within.Between bytes) text rest e in
    let same = eqb-true b 92 is in
    subst IsUtf8 f.2
    (IsUtf8-append (b ∷ []) f.0 (of_one (b ∷ []) 0 (omega arith) (omega (arith, same)))
    (next within.Between f.0 f.1))
after_escape false b left bytes text rest is next e = let no : ⊥ = cc in absurd no

pub inside_more : (more low high b : ℕ) (t : List ℕ) → low ≤ b → b ≤ high
    → IsTextAt (after_part more) t → InCharacter low high more (b ∷ t)
unfolding InCharacter
inside_more zero low high b t above below is = (above, below, is)
inside_more (suc more) low high b t above below is = (above, below, is)

inside : (t : Bool) (p : Pending) (b left : ℕ) (bytes text rest : List ℕ)
    → (nat_le p.low b && nat_le b p.high) ≡ t
    → ((place : Within) (t : List ℕ) → text_at place bytes ≡ given t rest → IsTextAt place t)
    → text_from (if t then Some (after_part p.more) else None) left
    (λ next. with_front (b ∷ []) (text_at next bytes)) ≡ given text rest
    → InCharacter p.low p.high p.more text
inside true p b left bytes text rest is next e =
    let f = front_is (b ∷ []) (text_at (after_part p.more) bytes) text rest e in
    let range = and_true (nat_le p.low b) (nat_le b p.high) is in
    subst (InCharacter p.low p.high p.more) f.2
    (inside_more p.more p.low p.high b f.0 (leb-true p.low b range.0) (leb-true b p.high range.1)
    (next (after_part p.more) f.0 f.1))
inside false p b left bytes text rest is next e = let no : ⊥ = cc in absurd no

-- what is read is UTF-8, or the rest of a character and then UTF-8
pub text_utf8 : (place : Within) (bytes text rest : List ℕ) → text_at place bytes ≡ given text rest
    → IsTextAt place text
unfolding text_at
text_utf8 place [] text rest e = let no : ⊥ = cc in absurd no
text_utf8 within.Between (b ∷ bytes) text rest e =
    begin_quote (nat_eq b 34) b (suc (length bytes)) bytes text rest
    (λ place t. text_utf8 place bytes t rest) e
text_utf8 within.Escaped (b ∷ bytes) text rest e =
    after_escape (nat_eq b 92) b (suc (length bytes)) bytes text rest refl
    (λ place t. text_utf8 place bytes t rest) e
text_utf8 (within.Inside p) (b ∷ bytes) text rest e =
    inside (nat_le p.low b && nat_le b p.high) p b (suc (length bytes)) bytes text rest refl
    (λ place t. text_utf8 place bytes t rest) e
