-- Numbers are the longest pieces.
use Rattle.std.proofs.Common.{◌≡◌, ℕ, ◌<◌, ◌≤◌, ◌⊎◌, inl, inr, ⊎_elim, Bool, true, false, ◌&&◌, ◌||◌, ◌==◌, not, List, [], ◌∷◌, ◌++◌, length, Option, Some, None, is_none, is_some, IsSome, if◌then◌else◌, refl, sym, ap, subst, ◌∙◌, arith, true≢false}
use Rattle.std.specs.Char.{is_ascii_digit, is_ascii_lowercase, is_ascii_uppercase}
use Rattle.std.specs.List.{list_all}
use Rattle.std.specs.Option.{option_map, option_or, option_and_then}
use Rattle.std.specs.Str.{byte}
use Rattle.cu_lex.specs.Located.{Located, Position, characters}
use Rattle.cu_lex.specs.Munch.{cut_at, longest}
use Rattle.cu_lex.specs.Pieces.{piece, blank, word, number, number_at, start}
use Rattle.cu_lex.specs.Inside.Scanning.{later, run, skip, is_underscore, is_digit_of, digits, digits_from, digits_scan, based_scan, decimal_scan, number_scan, prefix_base, HasNoWord}
use Rattle.cu_lex.specs.Words.{begins_with, is_symbol, is_run, entry, based_number, decimal_number, digits_value, goes_on_with_number, is_separator, mark_of}
use Rattle.cu_lex.proofs.AsciiLemmas.{and-left, and-right, all_below, small-digit}
use Rattle.cu_lex.proofs.ChainLemmas.{entry-none, first-prefix, none-is}
use Rattle.cu_lex.proofs.ClassLemmas.{begins-apart, no-literal, no-character}
use Rattle.cu_lex.proofs.FirstLemmas.{begins_blank, bases, begins-ten, blank-none, is_char, is_mark, mark-none}
use Rattle.cu_lex.proofs.ItemLemmas.{digits-are, run-most, run-some, not-some}
use Rattle.cu_lex.proofs.LongestLemmas.{no-prefix-word}
use Rattle.cu_lex.proofs.PieceLemmas.{PrefixIs, prefix-cases, PieceIs, piece-longest, piece-none, prefix-first, shorter-prefix}
use Rattle.cu_lex.proofs.PieceLemmas.PieceIs.{blank_prefix, word_prefix, number_prefix, character_prefix, string_prefix}
use Rattle.cu_lex.proofs.PieceLemmas.PrefixIs.{plain, marked, chained}
use Rattle.cu_lex.proofs.ScanLemmas.{run-skip, run-unique, skip-none}
use Rattle.cu_lex.proofs.WordLemmas.{is-run}

-- ---- texts before which neither a word nor a blank is

pub record IsAlone (text : List Located) : Type 0 where
  pub word : HasNoWord text
  pub mark : begins_with is_mark (characters text) ≡ false
  pub blank : begins_with begins_blank (characters text) ≡ false

pub alone : (class : ℕ → Bool) → ((c : ℕ) → class c ≡ true → c < 128)
    → all_below 128 (λ c. not (class c && is_ascii_uppercase c)) ≡ true → all_below 128 (λ c. not (class c && is_symbol c)) ≡ true → all_below 128 (λ c. not (class c && is_ascii_lowercase c)) ≡ true
    → all_below 128 (λ c. not (class c && is_underscore c)) ≡ true → all_below 128 (λ c. not (class c && is_mark c)) ≡ true → all_below 128 (λ c. not (class c && begins_blank c)) ≡ true
    → (text : List Located) → begins_with class (characters text) ≡ true → IsAlone text
alone class small a b c d e f text is =
    let no_underscore = begins-apart class is_underscore small d (characters text) is in
    record {
      word = record {
        capital = begins-apart class is_ascii_uppercase small a (characters text) is;
        symbol = begins-apart class is_symbol small b (characters text) is;
        variable = ap (λ t. begins_with is_ascii_lowercase (characters t)) (skip-none is_underscore text no_underscore) ∙ begins-apart class is_ascii_lowercase small c (characters text) is;
      };
      mark = begins-apart class is_mark small e (characters text) is;
      blank = begins-apart class begins_blank small f (characters text) is;
    }

pub alone-blank : (f r text : List Located) → f ++ r ≡ text → 0 < length f → IsAlone text → blank (characters f) ≡ None
alone-blank f r text whole some facts = blank-none (characters f) (prefix-first begins_blank f r text whole some ∙ facts.blank)

alone-prefix : (f r text : List Located) → f ++ r ≡ text → 0 < length f → IsAlone text → PrefixIs text f r → ⊥
alone-prefix f r text whole some facts (plain k w other) = no-prefix-word text facts.word k r w
alone-prefix f r text whole some facts (marked m at fits) = none-is (mark_of (characters f)) m (ap is_none (mark-none (characters f) (prefix-first is_mark f r text whole some ∙ facts.mark))) at
alone-prefix f r text whole some facts (chained capital reaches) = true≢false (sym capital ∙ facts.word.capital)

pub alone-no-word : (f r text : List Located) → f ++ r ≡ text → 0 < length f → IsAlone text → IsSome (word (characters f) (characters r)) → ⊥
alone-no-word f r text whole some facts is = alone-prefix f r text whole some facts (prefix-cases text f r whole is)

none-from : {X : Type 0} (o : Option X) → (IsSome o → ⊥) → o ≡ None
none-from None never = refl
none-from (Some x) never = absurd (never refl)

pub alone-word : (f r text : List Located) → f ++ r ≡ text → 0 < length f → IsAlone text → word (characters f) (characters r) ≡ None
alone-word f r text whole some facts = none-from (word (characters f) (characters r)) (alone-no-word f r text whole some facts)

pub digit-alone : (text : List Located) → begins_with is_ascii_digit (characters text) ≡ true → IsAlone text
unfolding is_symbol is_separator
digit-alone text is = alone is_ascii_digit small-digit refl refl refl refl refl refl text is

-- ---- prefixes that are numbers

record IsDecimal (f r : List Located) : Type 0 where
  all : is_run (is_digit_of 10) (characters f) ≡ true
  ended : goes_on_with_number (characters r) ≡ false

decimal-prefix : (f r : List Located) → IsSome (decimal_number (characters f) (characters r)) → IsDecimal f r
unfolding decimal_number digits_value
decimal-prefix f r is = by (goes_on_with_number (characters r)) refl (is_run (is_digit_of 10) (characters f)) refl is
  where
    by : (a : Bool) → goes_on_with_number (characters r) ≡ a → (b : Bool) → is_run (is_digit_of 10) (characters f) ≡ b
        → IsSome (if a then None else (if b then Some (digits_from 10 0 (characters f)) else None)) → IsDecimal f r
    by true ha b hb is = absurd (true≢false (sym is))
    by false ha true hb is = record { all = hb; ended = ha }
    by false ha false hb is = absurd (true≢false (sym is))

not-begins : (w : List ℕ) → goes_on_with_number w ≡ false → begins_with (is_digit_of 10) w ≡ false
not-begins [] ended = refl
not-begins (c ∷ w) ended = begins-ten (c ∷ w) ∙ or-left (is_ascii_digit c) (c == byte "." && begins_with is_ascii_digit w) ended
  where
    or-left : (a b : Bool) → a || b ≡ false → a ≡ false
    or-left true b h = h
    or-left false b h = refl

run-all : (class : ℕ → Bool) (w : List ℕ) → is_run class w ≡ true → list_all class w ≡ true
run-all class w is = and-right (begins_with class w) (list_all class w) is

-- what follows a decimal prefix
decimal-rest : (f r text : List Located) → f ++ r ≡ text → IsDecimal f r → skip (is_digit_of 10) text ≡ r
decimal-rest f r text whole is = ap (skip (is_digit_of 10)) (sym whole) ∙ run-unique (is_digit_of 10) f r (run-all (is_digit_of 10) (characters f) is.all) (not-begins (characters r) is.ended)

record IsBased (f r text : List Located) : Type 0 where
  base : ℕ
  a : Located
  b : Located
  more : List Located
  prefix : f ≡ a ∷ b ∷ more
  is : prefix_base text ≡ Some base
  all : is_run (is_digit_of base) (characters more) ≡ true

two_long : List ℕ → Bool
two_long [] = false
two_long (c ∷ []) = false
two_long (c ∷ d ∷ w) = true

based-prefix : (f r text : List Located) → f ++ r ≡ text → IsSome (based_number (characters f)) → IsBased f r text
unfolding based_number two_long digits_value
based-prefix [] r text whole is = absurd (not-some (based_number []) (ap (option_and_then (λ base. digits_value base [])) (entry-none two_long bases refl [] refl)) is)
based-prefix (a ∷ []) r text whole is = absurd (not-some (based_number (a.char ∷ [])) (ap (option_and_then (λ base. digits_value base [])) (entry-none two_long bases refl (a.char ∷ []) refl)) is)
based-prefix (a ∷ b ∷ f) r text whole is = by (entry bases (a.char ∷ b.char ∷ [])) refl is
  where
    same : prefix_base text ≡ entry bases (a.char ∷ b.char ∷ [])
    same = ap prefix_base (sym whole)

    digits-in : (base : ℕ) → entry bases (a.char ∷ b.char ∷ []) ≡ Some base → (x : Bool) → is_run (is_digit_of base) (characters f) ≡ x → IsSome (if x then Some (digits_from base 0 (characters f)) else None) → IsBased (a ∷ b ∷ f) r text
    digits-in base at true h is = record { base = base; a = a; b = b; more = f; prefix = refl; is = same ∙ at; all = h }
    digits-in base at false h is = absurd (true≢false (sym is))

    by : (o : Option ℕ) → entry bases (a.char ∷ b.char ∷ []) ≡ o → IsSome (option_and_then (λ base. digits_value base (characters f)) o) → IsBased (a ∷ b ∷ f) r text
    by None at is = absurd (true≢false (sym is))
    by (Some base) at is = digits-in base at (is_run (is_digit_of base) (characters f)) refl is

number-prefix : (p : Position) (f r : List Located) → IsSome (number p (characters f) (characters r)) → IsSome (decimal_number (characters f) (characters r)) ⊎ IsSome (based_number (characters f))
number-prefix p f r is = by (decimal_number (characters f) (characters r)) (based_number (characters f)) is
  where
    by : (a b : Option ℕ) → IsSome (option_map (number_at p) (option_or a b)) → IsSome a ⊎ IsSome b
    by (Some x) b is = inl refl
    by None (Some y) is = inr refl
    by None None is = absurd (true≢false (sym is))

number-piece : (f r : List Located) (n : ℕ) → blank (characters f) ≡ None → word (characters f) (characters r) ≡ None → option_or (decimal_number (characters f) (characters r)) (based_number (characters f)) ≡ Some n
    → piece f r ≡ Some (number_at (start f) n)
unfolding piece
number-piece f r n no_blank no_word is = rw (no_blank, no_word, is) refl

digit-quotes : (w : List ℕ) → begins_with is_ascii_digit w ≡ true → (begins_with (is_char 39) w ≡ false) × (begins_with (is_char 34) w ≡ false)
digit-quotes w is = (begins-apart is_ascii_digit (is_char 39) small-digit refl w is, begins-apart is_ascii_digit (is_char 34) small-digit refl w is)

-- a number before a text, where no other is longer
number-longest-at : (text prefix end : List Located) (n : ℕ) → begins_with is_ascii_digit (characters text) ≡ true → prefix ++ end ≡ text → 0 < length prefix
    → option_or (decimal_number (characters prefix) (characters end)) (based_number (characters prefix)) ≡ Some n
    → ((f r : List Located) → f ++ r ≡ text → IsDecimal f r → length f ≤ length prefix) → ((f r : List Located) → f ++ r ≡ text → IsBased f r text → length f ≤ length prefix)
    → longest piece text ≡ Some (cut_at prefix end (number_at (start prefix) n))
number-longest-at text prefix end n digit whole some is decimal based =
    piece-longest text prefix end (number_at (start prefix) n) whole some
    (number-piece prefix end n (alone-blank prefix end text whole some (digit-alone text digit)) (alone-word prefix end text whole some (digit-alone text digit)) is) most
  where
    most : (f r : List Located) → f ++ r ≡ text → 0 < length f → PieceIs f r → length f ≤ length prefix
    most f r w s (blank_prefix h) = absurd (not-some (blank (characters f)) (alone-blank f r text w s (digit-alone text digit)) h)
    most f r w s (word_prefix h) = absurd (alone-no-word f r text w s (digit-alone text digit) h)
    most f r w s (number_prefix h) = ⊎_elim (λ d. decimal f r w (decimal-prefix f r d)) (λ b. based f r w (based-prefix f r text w b)) (number-prefix (start f) f r h)
    most f r w s (character_prefix h) = absurd (no-character f r text w s (digit-quotes (characters text) digit).0 h)
    most f r w s (string_prefix h) = absurd (no-literal 34 f r text w s (digit-quotes (characters text) digit).1 h)

-- a prefix isn't two digits
prefix-digits : (w : List ℕ) (base : ℕ) → entry bases w ≡ Some base → list_all (is_digit_of 10) w ≡ true → ⊥
prefix-digits w base is all = none-is (entry bases w) base (ap is_none (entry-none (λ x. not (list_all (is_digit_of 10) x)) bases refl w (ap not all))) is

decimal-no-prefix : (f r text : List Located) (base : ℕ) → f ++ r ≡ text → IsDecimal f r → prefix_base text ≡ Some base → length f ≤ 1
decimal-no-prefix [] r text base whole is at = omega arith
decimal-no-prefix (a ∷ []) r text base whole is at = omega arith
decimal-no-prefix (a ∷ b ∷ f) r text base whole is at =
    let all = run-all (is_digit_of 10) (characters (a ∷ b ∷ f)) is.all in
    let first = and-left (is_digit_of 10 a.char) (list_all (is_digit_of 10) (characters (b ∷ f))) all in
    let second = and-left (is_digit_of 10 b.char) (list_all (is_digit_of 10) (characters f)) (and-right (is_digit_of 10 a.char) (list_all (is_digit_of 10) (characters (b ∷ f))) all) in
    absurd (prefix-digits (a.char ∷ b.char ∷ []) base (ap prefix_base whole ∙ at) (rw (first, second) refl))

short-prefix : (c : ℕ) → entry bases (c ∷ []) ≡ None
unfolding two_long
short-prefix c = entry-none two_long bases refl (c ∷ []) refl

-- the first digits of a base, and what follows them
abbrev digits_at : ℕ → List Located → ℕ × List Located
digits_at base text = (digits_from base 0 (digits base text), skip (is_digit_of base) text)

-- what digits of a base were found
record Scanned (base : ℕ) (text : List Located) (n : ℕ) (end : List Located) : Type 0 where
  begins : begins_with (is_digit_of base) (characters text) ≡ true
  value : digits_from base 0 (digits base text) ≡ n
  rest : skip (is_digit_of base) text ≡ end

scanned : (base : ℕ) (text : List Located) (n : ℕ) (end : List Located) → digits_scan base text ≡ Some (n, end) → Scanned base text n end
scanned base text n end is = by (begins_with (is_digit_of base) (characters text)) refl is
  where
    by : (b : Bool) → begins_with (is_digit_of base) (characters text) ≡ b → (if b then Some (digits_at base text) else None) ≡ Some (n, end) → Scanned base text n end
    by true h is =
        let both : digits_at base text ≡ (n, end) = cc in
        record { begins = h; value = ap (λ x. x.0) both; rest = ap (λ x. x.1) both }
    by false h is = absurd (let impossible : ⊥ = cc in impossible)

based-most : (a b : Located) (text : List Located) (base : ℕ) (f r : List Located) → f ++ r ≡ a ∷ b ∷ text → IsBased f r (a ∷ b ∷ text) → prefix_base (a ∷ b ∷ text) ≡ Some base → length f ≤ length (a ∷ b ∷ run (is_digit_of base) text)
based-most a b text base f r whole is at =
    let same : is.base ≡ base = (let e : Some is.base ≡ Some base = sym is.is ∙ at in cc) in
    let whole' : is.a ∷ is.b ∷ (is.more ++ r) ≡ a ∷ b ∷ text = ap (λ t. t ++ r) (sym is.prefix) ∙ whole in
    let tails : is.more ++ r ≡ text = cc in
    let all : list_all (is_digit_of base) (characters is.more) ≡ true = subst (λ x. list_all (is_digit_of x) (characters is.more) ≡ true) same (run-all (is_digit_of is.base) (characters is.more) is.all) in
    let most = run-most (is_digit_of base) is.more r text tails all in
    omega (arith, ap length is.prefix)

based-longest : (base : ℕ) (text : List Located) (n : ℕ) (end : List Located) → begins_with is_ascii_digit (characters text) ≡ true → prefix_base text ≡ Some base → digits_scan base (later (later text)) ≡ Some (n, end)
    → (prefix : List Located) × (longest piece text ≡ Some (cut_at prefix end (number_at (start text) n)))
unfolding based_number
based-longest base [] n end digit at is = absurd (true≢false (sym digit))
based-longest base (a ∷ []) n end digit at is = absurd (none-is (prefix_base (a ∷ [])) base (ap is_none (short-prefix a.char)) at)
based-longest base (a ∷ b ∷ text) n end digit at is =
    let s = scanned base text n end is in
    let prefix = a ∷ b ∷ run (is_digit_of base) text in (
      prefix,
      number-longest-at (a ∷ b ∷ text) prefix end n digit (ap (λ t. a ∷ b ∷ run (is_digit_of base) text ++ t) (sym s.rest) ∙ ap (λ t. a ∷ b ∷ t) (run-skip (is_digit_of base) text)) (omega arith)
          (allowed s)
          (λ f r whole d. let one = decimal-no-prefix f r (a ∷ b ∷ text) base whole d at in omega arith)
          (λ f r whole d. based-most a b text base f r whole d at),
    )
  where
    allowed : Scanned base text n end → option_or (decimal_number (a.char ∷ b.char ∷ characters (run (is_digit_of base) text)) (characters end)) (based_number (a.char ∷ b.char ∷ characters (run (is_digit_of base) text))) ≡ Some n
    allowed s =
        let value : digits_value base (characters (run (is_digit_of base) text)) ≡ Some n = digits-are base (characters (run (is_digit_of base) text)) (is-run (is_digit_of base) text s.begins) ∙ ap Some s.value in
        let found : option_and_then (λ x. digits_value x (characters (run (is_digit_of base) text))) (entry bases (a.char ∷ b.char ∷ [])) ≡ Some n = ap (option_and_then (λ x. digits_value x (characters (run (is_digit_of base) text)))) at ∙ value in
        ap (λ o. option_or o (based_number (a.char ∷ b.char ∷ characters (run (is_digit_of base) text))))
        (none-from (decimal_number (a.char ∷ b.char ∷ characters (run (is_digit_of base) text)) (characters end))
        (λ some. no-two (decimal-prefix (a ∷ b ∷ run (is_digit_of base) text) end some))) ∙ found
      where
        no-two : IsDecimal (a ∷ b ∷ run (is_digit_of base) text) end → ⊥
        no-two d = let one = decimal-no-prefix (a ∷ b ∷ run (is_digit_of base) text) end (a ∷ b ∷ run (is_digit_of base) text ++ end) base refl d at in absurd (omega arith)

-- without a base
no-based : (f r text : List Located) → f ++ r ≡ text → based_scan text ≡ None → IsBased f r text → ⊥
no-based f r text whole none is = true≢false (sym some ∙ ap is_some none)
  where
    rest : is.more ++ r ≡ later (later text)
    rest = ap (λ t. later (later t)) (ap (λ t. t ++ r) (sym is.prefix) ∙ whole)

    first : begins_with (is_digit_of is.base) (characters (later (later text))) ≡ true
    first = subst (λ t. begins_with (is_digit_of is.base) (characters t) ≡ true) rest (first-prefix (is_digit_of is.base) is.more r (and-left (begins_with (is_digit_of is.base) (characters is.more)) (list_all (is_digit_of is.base) (characters is.more)) is.all))

    some : is_some (based_scan text) ≡ true
    some = ap (λ o. is_some (option_and_then (λ base. digits_scan base (later (later text))) o)) is.is ∙ ap (λ b. is_some (if b then Some (digits_at is.base (later (later text))) else None)) first

decimal-value : (w next : List ℕ) (n : ℕ) (o : Option ℕ) → goes_on_with_number next ≡ false → digits_value 10 w ≡ Some n → option_or (decimal_number w next) o ≡ Some n
unfolding decimal_number
decimal-value w next n o ended is = rw (ended, is) refl

first-place : (class : ℕ → Bool) (c : Located) (text : List Located) → class c.char ≡ true → start (run class (c ∷ text)) ≡ c.at
first-place class c text is = rw is refl

decimal-longest : (text : List Located) (n : ℕ) (end : List Located) → begins_with is_ascii_digit (characters text) ≡ true → based_scan text ≡ None → decimal_scan text ≡ Some (n, end)
    → (prefix : List Located) × (longest piece text ≡ Some (cut_at prefix end (number_at (start text) n)))
decimal-longest [] n end digit none is = absurd (true≢false (sym digit))
decimal-longest (c ∷ text) n end digit none is = by (goes_on_with_number (characters (skip (is_digit_of 10) (c ∷ text)))) refl is
  where
    ten : begins_with (is_digit_of 10) (characters (c ∷ text)) ≡ true
    ten = begins-ten (characters (c ∷ text)) ∙ digit

    by : (b : Bool) → goes_on_with_number (characters (skip (is_digit_of 10) (c ∷ text))) ≡ b → (if b then None else Some (digits_at 10 (c ∷ text))) ≡ Some (n, end)
        → (prefix : List Located) × (longest piece (c ∷ text) ≡ Some (cut_at prefix end (number_at c.at n)))
    by true h is = absurd (let impossible : ⊥ = cc in impossible)
    by false h is =
        let both : digits_at 10 (c ∷ text) ≡ (n, end) = cc in
        let value : digits_from 10 0 (digits 10 (c ∷ text)) ≡ n = ap (λ x. x.0) both in
        let rest : skip (is_digit_of 10) (c ∷ text) ≡ end = ap (λ x. x.1) both in
        let prefix = run (is_digit_of 10) (c ∷ text) in
        let whole : prefix ++ end ≡ c ∷ text = ap (λ t. prefix ++ t) (sym rest) ∙ run-skip (is_digit_of 10) (c ∷ text) in
        let ended : goes_on_with_number (characters end) ≡ false = ap (λ t. goes_on_with_number (characters t)) (sym rest) ∙ h in
        let number = digits-are 10 (characters prefix) (is-run (is_digit_of 10) (c ∷ text) ten) ∙ ap Some value in (
          prefix,
          number-longest-at (c ∷ text) prefix end n digit whole (run-some (is_digit_of 10) (c ∷ text) ten)
              (decimal-value (characters prefix) (characters end) n (based_number (characters prefix)) ended number)
              (λ f r w d. shorter-prefix f r prefix end (c ∷ text) w whole (let at : length end ≡ length r = ap length (sym rest ∙ decimal-rest f r (c ∷ text) w d) in omega arith))
              (λ f r w d. absurd (no-based f r (c ∷ text) w none d)) ∙ ap (λ p. Some (cut_at prefix end (number_at p n))) (first-place (is_digit_of 10) c text ten),
        )

pub number-longest : (text : List Located) (n : ℕ) (end : List Located) → begins_with is_ascii_digit (characters text) ≡ true → number_scan text ≡ Some (n, end)
    → (prefix : List Located) × (longest piece text ≡ Some (cut_at prefix end (number_at (start text) n)))
number-longest text n end digit is = by (prefix_base text) refl (based_scan text) refl is
  where
    by : (o : Option ℕ) → prefix_base text ≡ o → (s : Option (ℕ × List Located)) → based_scan text ≡ s → option_or s (decimal_scan text) ≡ Some (n, end) → (prefix : List Located) × (longest piece text ≡ Some (cut_at prefix end (number_at (start text) n)))
    by o at None none is = decimal-longest text n end digit none is
    by None at (Some found) none is = absurd (let e : None ≡ Some found = sym (ap (option_and_then (λ base. digits_scan base (later (later text)))) at) ∙ none in let impossible : ⊥ = cc in impossible)
    by (Some base) at (Some found) none is = based-longest base text n end digit at (sym (ap (option_and_then (λ b. digits_scan b (later (later text)))) at) ∙ none ∙ is)

pub number-never : (text : List Located) → begins_with is_ascii_digit (characters text) ≡ true → number_scan text ≡ None → longest piece text ≡ None
number-never text digit is = by (based_scan text) refl is
  where
    bad : based_scan text ≡ None → decimal_scan text ≡ None → (f r : List Located) → f ++ r ≡ text → 0 < length f → PieceIs f r → ⊥
    bad none none' f r w s (blank_prefix h) = not-some (blank (characters f)) (alone-blank f r text w s (digit-alone text digit)) h
    bad none none' f r w s (word_prefix h) = alone-no-word f r text w s (digit-alone text digit) h
    bad none none' f r w s (number_prefix h) = ⊎_elim (λ d. no-decimal f r w (decimal-prefix f r d)) (λ b. no-based f r text w none (based-prefix f r text w b)) (number-prefix (start f) f r h)
      where
        no-decimal : (f r : List Located) → f ++ r ≡ text → IsDecimal f r → ⊥
        no-decimal f r w d =
            let ended : goes_on_with_number (characters (skip (is_digit_of 10) text)) ≡ false = ap (λ t. goes_on_with_number (characters t)) (decimal-rest f r text w d) ∙ d.ended in
            true≢false (ap (λ b. is_some (if b then None else Some (digits_at 10 text))) (sym ended) ∙ ap is_some none')
    bad none none' f r w s (character_prefix h) = no-character f r text w s (digit-quotes (characters text) digit).0 h
    bad none none' f r w s (string_prefix h) = no-literal 34 f r text w s (digit-quotes (characters text) digit).1 h

    by : (s : Option (ℕ × List Located)) → based_scan text ≡ s → option_or s (decimal_scan text) ≡ None → longest piece text ≡ None
    by None none is = piece-none text (bad none is)
    by (Some found) none is = cc
