-- The longest items of literals are those that are read from the left.
use Rattle.std.proofs.Common.{◌≡◌, ℕ, ◌<◌, ◌≤◌, Bool, true, false, ◌||◌, ◌==◌, not, List, [], ◌∷◌, ◌++◌, length, Option, Some, None, IsSome, is_some, if◌then◌else◌, refl, sym, ap, subst, ◌∙◌, arith, true≢false, eqb-true}
use Rattle.std.specs.Char.{is_ascii_control}
use Rattle.std.specs.List.{list_all}
use Rattle.std.specs.Option.{option_map, option_or}
use Rattle.cu_lex.specs.Inside.Items.{numeric_scan, short_or_decimal, escape_scan, item_scan}
use Rattle.cu_lex.specs.Literals.{item, item_of, escape, short_escape, short_escapes, numeric_escape}
use Rattle.cu_lex.specs.Located.{Located, characters}
use Rattle.cu_lex.specs.Munch.{cut_at, longest}
use Rattle.cu_lex.specs.Inside.Scanning.{digits, digits_from, is_digit_of, run, skip}
use Rattle.cu_lex.specs.Words.{begins_with, digits_value, is_run}
use Rattle.cu_lex.proofs.AsciiLemmas.{and-left, and-right}
use Rattle.cu_lex.proofs.ChainLemmas.{entry-none}
use Rattle.cu_lex.proofs.MunchLemmas.{is-longest, longest_from_none}
use Rattle.cu_lex.proofs.ScanLemmas.{run-skip}
use Rattle.cu_lex.proofs.WordLemmas.{is-run}

-- ---- the longest word of a class of words

pub record Longest {X : Type 0} (words : List ℕ → Option X) (text : List Located) (what : X) (rest : List Located) : Type 0 where
  pub prefix : List Located
  pub whole : prefix ++ rest ≡ text
  pub some : 0 < length prefix
  pub allowed : words (characters prefix) ≡ Some what
  pub most : (f r : List Located) → f ++ r ≡ text → IsSome (words (characters f)) → length f ≤ length prefix

abbrev pub Outcome : {X : Type 0} → (List ℕ → Option X) → List Located → Option (X × List Located) → Type 0
Outcome words text None = (f r : List Located) → f ++ r ≡ text → words (characters f) ≡ None
Outcome words text (Some found) = Longest words text found.0 found.1

pub not-some : {X : Type 0} (o : Option X) → o ≡ None → IsSome o → ⊥
not-some o none some = true≢false (sym some ∙ ap is_some none)

-- a character before
pub outcome-shift : {X : Type 0} (words words' : List ℕ → Option X) (c : Located) (text : List Located) (r : Option (X × List Located))
    → ((w : List ℕ) → words' (c.char ∷ w) ≡ words w) → words' [] ≡ None → Outcome words text r → Outcome words' (c ∷ text) r
outcome-shift {X} words words' c text None step empty none = by
  where
    by : (f r : List Located) → f ++ r ≡ c ∷ text → words' (characters f) ≡ None
    by [] r whole = empty
    by (d ∷ f) r whole =
        let heads : d.char ≡ c.char = ap (λ l. l.char) (let e : d ≡ c = cc in e) in
        let tails : f ++ r ≡ text = cc in
        ap (λ x. words' (x ∷ characters f)) heads ∙ step (characters f) ∙ none f r tails
outcome-shift {X} words words' c text (Some found) step empty longest = record {
  prefix = c ∷ longest.prefix;
  whole = ap (λ t. c ∷ t) longest.whole;
  some = omega arith;
  allowed = step (characters longest.prefix) ∙ longest.allowed;
  most = by;
}
  where
    by : (f r : List Located) → f ++ r ≡ c ∷ text → IsSome (words' (characters f)) → length f ≤ length (c ∷ longest.prefix)
    by [] r whole is = omega arith
    by (d ∷ f) r whole is =
        let heads : d.char ≡ c.char = ap (λ l. l.char) (let e : d ≡ c = cc in e) in
        let tails : f ++ r ≡ text = cc in
        let shorter = longest.most f r tails (subst IsSome (ap (λ x. words' (x ∷ characters f)) heads ∙ step (characters f)) is) in
        omega arith

-- another class with the same words at these prefixes
pub outcome-same : {X : Type 0} (words words' : List ℕ → Option X) (text : List Located) (r : Option (X × List Located))
    → ((f r : List Located) → f ++ r ≡ text → words' (characters f) ≡ words (characters f)) → Outcome words text r → Outcome words' text r
outcome-same words words' text None same none = λ f r whole. same f r whole ∙ none f r whole
outcome-same words words' text (Some found) same longest = record {
  prefix = longest.prefix;
  whole = longest.whole;
  some = longest.some;
  allowed = same longest.prefix found.1 longest.whole ∙ longest.allowed;
  most = λ f r whole is. longest.most f r whole (subst IsSome (same f r whole) is);
}

-- one character
pub outcome-one : {X : Type 0} (words : List ℕ → Option X) (c : Located) (text : List Located) (what : X)
    → words (c.char ∷ []) ≡ Some what → ((d : ℕ) (w : List ℕ) → words (c.char ∷ d ∷ w) ≡ None) → Longest words (c ∷ text) what text
outcome-one words c text what is none = record {
  prefix = c ∷ [];
  whole = refl;
  some = omega arith;
  allowed = is;
  most = by;
}
  where
    by : (f r : List Located) → f ++ r ≡ c ∷ text → IsSome (words (characters f)) → length f ≤ 1
    by [] r whole is = omega arith
    by (d ∷ []) r whole is = omega arith
    by (d ∷ e ∷ f) r whole is =
        let heads : d.char ≡ c.char = ap (λ l. l.char) (let h : d ≡ c = cc in h) in
        absurd (not-some (words (c.char ∷ e.char ∷ characters f)) (none e.char (characters f)) (subst (λ x. IsSome (words (x ∷ e.char ∷ characters f))) heads is))

pub outcome-none : {X : Type 0} (words : List ℕ → Option X) (c : Located) (text : List Located) → words [] ≡ None → ((w : List ℕ) → words (c.char ∷ w) ≡ None)
    → (f r : List Located) → f ++ r ≡ c ∷ text → words (characters f) ≡ None
outcome-none words c text empty none [] r whole = empty
outcome-none words c text empty none (d ∷ f) r whole =
    let heads : d.char ≡ c.char = ap (λ l. l.char) (let h : d ≡ c = cc in h) in
    ap (λ x. words (x ∷ characters f)) heads ∙ none (characters f)

-- ---- digits

pub run-most : (class : ℕ → Bool) (f r text : List Located) → f ++ r ≡ text → list_all class (characters f) ≡ true → length f ≤ length (run class text)
run-most class [] r text whole all = omega arith
run-most class (d ∷ f) r [] whole all = cc
run-most class (d ∷ f) r (c ∷ text) whole all =
    let heads : d.char ≡ c.char = ap (λ l. l.char) (let h : d ≡ c = cc in h) in
    let tails : f ++ r ≡ text = cc in
    let first : class c.char ≡ true = subst (λ x. class x ≡ true) heads (and-left (class d.char) (list_all class (characters f)) all) in
    let more = run-most class f r text tails (and-right (class d.char) (list_all class (characters f)) all) in
    rw first (omega arith)

pub run-some : (class : ℕ → Bool) (text : List Located) → begins_with class (characters text) ≡ true → 0 < length (run class text)
run-some class [] is = absurd (true≢false (sym is))
run-some class (c ∷ text) is = rw is (omega arith)

-- the code of digits, as words
abbrev pub codes_in : ℕ → List ℕ → Option (Option ℕ)
codes_in base w = option_map Some (digits_value base w)

pub digits-run : (base : ℕ) (w : List ℕ) → IsSome (codes_in base w) → is_run (is_digit_of base) w ≡ true
unfolding digits_value
digits-run base w is = by (is_run (is_digit_of base) w) refl is
  where
    by : (b : Bool) → is_run (is_digit_of base) w ≡ b → IsSome (option_map Some (if b then Some (digits_from base 0 w) else None)) → is_run (is_digit_of base) w ≡ true
    by true e is = e
    by false e is = absurd (true≢false (sym is))

pub digits-are : (base : ℕ) (w : List ℕ) → is_run (is_digit_of base) w ≡ true → digits_value base w ≡ Some (digits_from base 0 w)
unfolding digits_value
digits-are base w is = rw is refl

pub digits-none : (base : ℕ) (w : List ℕ) → begins_with (is_digit_of base) w ≡ false → digits_value base w ≡ None
unfolding digits_value
digits-none base w is = rw is refl

first-of-prefix : (class : ℕ → Bool) (f r text : List Located) → f ++ r ≡ text → begins_with class (characters text) ≡ false → begins_with class (characters f) ≡ false
first-of-prefix class [] r text whole is = refl
first-of-prefix class (d ∷ f) r [] whole is = cc
first-of-prefix class (d ∷ f) r (c ∷ text) whole is =
    let heads : d.char ≡ c.char = ap (λ l. l.char) (let h : d ≡ c = cc in h) in
    ap class heads ∙ is

pub outcome-digits : (base : ℕ) (text : List Located) → Outcome (codes_in base) text (numeric_scan base text)
outcome-digits base text = by (begins_with (is_digit_of base) (characters text)) refl
  where
    by : (b : Bool) → begins_with (is_digit_of base) (characters text) ≡ b
        → Outcome (codes_in base) text (if b then Some (Some (digits_from base 0 (digits base text)), skip (is_digit_of base) text) else None)
    by true is = record {
      prefix = run (is_digit_of base) text;
      whole = run-skip (is_digit_of base) text;
      some = run-some (is_digit_of base) text is;
      allowed = ap (option_map Some) (digits-are base (digits base text) (is-run (is_digit_of base) text is));
      most = λ f r whole some. run-most (is_digit_of base) f r text whole (and-right (begins_with (is_digit_of base) (characters f)) (list_all (is_digit_of base) (characters f)) (digits-run base (characters f) some));
    }
    by false is = λ f r whole. ap (option_map Some) (digits-none base (characters f) (first-of-prefix (is_digit_of base) f r text whole is))

-- ---- escapes

-- a table of single characters has no longer word
is_one : List ℕ → Bool
is_one [] = false
is_one (c ∷ []) = true
is_one (c ∷ d ∷ w) = false

short-one : (c d : ℕ) (w : List ℕ) → short_escape (c ∷ d ∷ w) ≡ None
unfolding short_escape is_one
short-one c d w = entry-none is_one short_escapes refl (c ∷ d ∷ w) refl

short-begins : (p : ℕ → Bool) → list_all (λ (e : List ℕ × ℕ). begins_with p e.0) short_escapes ≡ true → (c : ℕ) (w : List ℕ) → p c ≡ false → short_escape (c ∷ w) ≡ None
unfolding short_escape
short-begins p all c w fails = entry-none (begins_with p) short_escapes all (c ∷ w) fails

escape-nil : escape [] ≡ None
unfolding short_escape numeric_escape
escape-nil = refl

-- after `x` and `o`
escape-x : (c : ℕ) (w : List ℕ) → c ≡ 120 → escape (c ∷ w) ≡ codes_in 16 w
unfolding numeric_escape
escape-x c w at = rw (at, short-begins (λ x. not (x == 120)) refl 120 w refl) refl

escape-o : (c : ℕ) (w : List ℕ) → c ≡ 111 → escape (c ∷ w) ≡ codes_in 8 w
unfolding numeric_escape
escape-o c w at = rw (at, short-begins (λ x. not (x == 111)) refl 111 w refl) refl

-- after `&`
escape-and : (c : ℕ) → c ≡ 38 → escape (c ∷ []) ≡ Some None
escape-and c at = rw at refl

escape-and-more : (c d : ℕ) (w : List ℕ) → c ≡ 38 → escape (c ∷ d ∷ w) ≡ None
unfolding numeric_escape
escape-and-more c d w at = rw (at, short-one 38 d w, digits-none 10 (38 ∷ d ∷ w) refl) refl

-- after another character
escape-other : (c : ℕ) (w : List ℕ) → (c == 38) ≡ false → (c == 120) ≡ false → (c == 111) ≡ false → escape (c ∷ w) ≡ option_map Some (option_or (short_escape (c ∷ w)) (digits_value 10 (c ∷ w)))
unfolding numeric_escape
escape-other c w amp x o = rw (amp, x, o) refl

short-digit : (c code : ℕ) → short_escape (c ∷ []) ≡ Some code → is_digit_of 10 c ≡ false
short-digit c code is = by (is_digit_of 10 c) refl
  where
    by : (b : Bool) → is_digit_of 10 c ≡ b → b ≡ false
    by false e = refl
    by true e =
        let none = short-begins (λ x. not (is_digit_of 10 x)) refl c [] (ap not e) in
        cc

outcome-short : (d : Located) (text : List Located) (o : Option ℕ) → short_escape (d.char ∷ []) ≡ o → (d.char == 38) ≡ false → (d.char == 120) ≡ false → (d.char == 111) ≡ false
    → Outcome escape (d ∷ text) (short_or_decimal o (d ∷ text))
outcome-short d text (Some code) is amp x o =
    outcome-one escape d text (Some code)
    (escape-other d.char [] amp x o ∙ ap (λ s. option_map Some (option_or s (digits_value 10 (d.char ∷ [])))) is)
    (λ e w. escape-other d.char (e ∷ w) amp x o ∙ ap (λ s. option_map Some (option_or s (digits_value 10 (d.char ∷ e ∷ w)))) (short-one d.char e w)
    ∙ ap (option_map Some) (digits-none 10 (d.char ∷ e ∷ w) (short-digit d.char code is)))
outcome-short d text None is amp x o = outcome-same (codes_in 10) escape (d ∷ text) (numeric_scan 10 (d ∷ text)) same (outcome-digits 10 (d ∷ text))
  where
    short-none : (w : List ℕ) → short_escape (d.char ∷ w) ≡ None
    short-none [] = is
    short-none (e ∷ w) = short-one d.char e w

    same : (f r : List Located) → f ++ r ≡ d ∷ text → escape (characters f) ≡ codes_in 10 (characters f)
    same [] r whole = escape-nil ∙ sym (ap (option_map Some) (digits-none 10 [] refl))
    same (e ∷ f) r whole =
        let heads : e.char ≡ d.char = ap (λ l. l.char) (let h : e ≡ d = cc in h) in
        ap (λ c. escape (c ∷ characters f)) heads ∙ escape-other d.char (characters f) amp x o
        ∙ ap (λ s. option_map Some (option_or s (digits_value 10 (d.char ∷ characters f)))) (short-none (characters f))
        ∙ ap (λ c. codes_in 10 (c ∷ characters f)) (sym heads)

pub outcome-escape : (text : List Located) → Outcome escape text (escape_scan text)
outcome-escape [] = none
  where
    none : (f r : List Located) → f ++ r ≡ [] → escape (characters f) ≡ None
    none [] r whole = escape-nil
    none (c ∷ f) r whole = cc
outcome-escape (d ∷ text) = by (d.char == 38) refl (d.char == 120) refl (d.char == 111) refl
  where
    by : (a : Bool) → (d.char == 38) ≡ a → (x : Bool) → (d.char == 120) ≡ x → (o : Bool) → (d.char == 111) ≡ o
        → Outcome escape (d ∷ text) (if a then Some (None, text) else if x then numeric_scan 16 text else if o then numeric_scan 8 text else short_or_decimal (short_escape (d.char ∷ [])) (d ∷ text))
    by true amp x is o is' = outcome-one escape d text None (escape-and d.char (eqb-true d.char 38 amp)) (λ e w. escape-and-more d.char e w (eqb-true d.char 38 amp))
    by false amp true is o is' = outcome-shift (codes_in 16) escape d text (numeric_scan 16 text) (λ w. escape-x d.char w (eqb-true d.char 120 is)) escape-nil (outcome-digits 16 text)
    by false amp false is true is' = outcome-shift (codes_in 8) escape d text (numeric_scan 8 text) (λ w. escape-o d.char w (eqb-true d.char 111 is')) escape-nil (outcome-digits 8 text)
    by false amp false is false is' = outcome-short d text (short_escape (d.char ∷ [])) refl amp is is'

-- ---- items

item-nil : (quote : ℕ) → item_of quote [] ≡ None
unfolding item_of
item-nil quote = refl

item-backslash : (quote c : ℕ) (w : List ℕ) → (c == 92) ≡ true → item_of quote (c ∷ w) ≡ escape w
unfolding item_of
item-backslash quote c [] is = rw (is, escape-nil) (by (c == quote))
  where
    by : (b : Bool) → (if b || true then None else Some (Some c)) ≡ None
    by true = refl
    by false = refl
item-backslash quote c (d ∷ w) is = rw is refl

item-plain : (quote c : ℕ) → (c == 92) ≡ false → item_of quote (c ∷ []) ≡ (if c == quote || is_ascii_control c then None else Some (Some c))
unfolding item_of
item-plain quote c is = rw is refl

item-plain-more : (quote c d : ℕ) (w : List ℕ) → (c == 92) ≡ false → item_of quote (c ∷ d ∷ w) ≡ None
unfolding item_of
item-plain-more quote c d w is = rw is refl

pub outcome-item : (quote : ℕ) (text : List Located) → Outcome (item_of quote) text (item_scan quote text)
outcome-item quote [] = none
  where
    none : (f r : List Located) → f ++ r ≡ [] → item_of quote (characters f) ≡ None
    none [] r whole = item-nil quote
    none (c ∷ f) r whole = cc
outcome-item quote (c ∷ text) = by (c.char == 92) refl (c.char == quote || is_ascii_control c.char) refl
  where
    by : (b : Bool) → (c.char == 92) ≡ b → (p : Bool) → (c.char == quote || is_ascii_control c.char) ≡ p
        → Outcome (item_of quote) (c ∷ text) (if b then escape_scan text else if p then None else Some (Some c.char, text))
    by true is p is' = outcome-shift escape (item_of quote) c text (escape_scan text) (λ w. item-backslash quote c.char w is) (item-nil quote) (outcome-escape text)
    by false is true is' = outcome-none (item_of quote) c text (item-nil quote) none
      where
        none : (w : List ℕ) → item_of quote (c.char ∷ w) ≡ None
        none [] = item-plain quote c.char is ∙ ap (λ b. if b then None else Some (Some c.char)) is'
        none (d ∷ w) = item-plain-more quote c.char d w is
    by false is false is' =
        outcome-one (item_of quote) c text (Some c.char) (item-plain quote c.char is ∙ ap (λ b. if b then None else Some (Some c.char)) is')
        (λ d w. item-plain-more quote c.char d w is)

-- ---- the longest item

pub longest-item : (quote : ℕ) (text : List Located) (what : Option ℕ) (rest : List Located) → item_scan quote text ≡ Some (what, rest)
    → (prefix : List Located) × (longest (item quote) text ≡ Some (cut_at prefix rest what))
longest-item quote text what rest is =
    let found : Longest (item_of quote) text what rest = subst (Outcome (item_of quote) text) is (outcome-item quote text) in
    (found.prefix, is-longest (item quote) text (cut_at found.prefix rest what) (record { whole = found.whole; some = found.some; allowed = found.allowed; most = found.most }))

pub no-longest-item : (quote : ℕ) (text : List Located) → item_scan quote text ≡ None → longest (item quote) text ≡ None
no-longest-item quote text is =
    let none = subst (Outcome (item_of quote) text) is (outcome-item quote text) in
    longest_from_none (item quote) text (λ f r whole some. none f r whole)
