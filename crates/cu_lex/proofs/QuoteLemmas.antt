-- Literals are the longest pieces.
use Rattle.std.proofs.Common.{◌≡◌, ℕ, zero, suc, ◌<◌, ◌≤◌, Bool, true, false, ◌&&◌, ◌||◌, ◌==◌, List, [], ◌∷◌, ◌++◌, length, Option, Some, None, IsSome, if◌then◌else◌, refl, sym, ap, ◌∙◌, arith, true≢false, append_assoc, eqb-true, eq-eqb}
use Rattle.std.proofs.lemmas.Slice.Eq.{bytes_eq-Decides}
use Rattle.std.specs.Char.{is_ascii_control, is_ascii_digit}
use Rattle.std.specs.Option.{option_map, option_and_then}
use Rattle.std.specs.Str.{byte, bytes_eq}
use Rattle.cu_lex.specs.Inside.Items.{Scan, numeric_scan, short_or_decimal, escape_scan, item_scan, string_items, IsQuoted}
use Rattle.cu_lex.specs.Literals.{item, items_between, short_escape}
use Rattle.cu_lex.specs.Located.{Located, Position, characters}
use Rattle.cu_lex.specs.Munch.{Placed, cut_at, cut_all, longest, with_piece, IsLongest}
use Rattle.cu_lex.specs.Pieces.{Piece, piece, blank, word, number, one_character, character_at, string, start}
use Rattle.cu_lex.specs.Inside.Scanning.{digits, digits_from, is_digit_of, later, run, skip}
use Rattle.cu_lex.specs.Words.{begins_with, is_symbol, is_separator}
use Rattle.cu_lex.proofs.ClassLemmas.{begins-apart, no-number, no-literal, no-character}
use Rattle.cu_lex.proofs.CutLemmas.{cut-step, rest-shorter}
use Rattle.cu_lex.proofs.FirstLemmas.{is_char, literal-none, number-none}
use Rattle.cu_lex.proofs.ItemLemmas.{longest-item, not-some}
use Rattle.cu_lex.proofs.LiteralLemmas.{ended}
use Rattle.cu_lex.proofs.MunchLemmas.{is-longest, longest-is}
use Rattle.cu_lex.proofs.NumberLemmas.{IsAlone, alone, alone-blank, alone-word, alone-no-word}
use Rattle.cu_lex.proofs.PieceLemmas.{PieceIs, piece-longest, piece-none, prefix-first, shorter-prefix}
use Rattle.cu_lex.proofs.PieceLemmas.PieceIs.{blank_prefix, word_prefix, number_prefix, character_prefix, string_prefix}

-- ---- more text after an item

abbrev a_scan : Option ℕ → List Located → Option ℕ × List Located
a_scan code text = (code, text)

record RunOn (class : ℕ → Bool) (text r : List Located) (c : Located) (rest : List Located) : Type 0 where
  prefix : run class (text ++ r) ≡ run class text
  end : skip class (text ++ r) ≡ c ∷ rest ++ r

run-on : (class : ℕ → Bool) (text r : List Located) (c : Located) (rest : List Located) → skip class text ≡ c ∷ rest → RunOn class text r c rest
run-on class [] r c rest is = absurd (let impossible : ⊥ = cc in impossible)
run-on class (d ∷ text) r c rest is = by (class d.char) refl (λ h. run-on class text r c rest h) is
  where
    by : (b : Bool) → class d.char ≡ b → (skip class text ≡ c ∷ rest → RunOn class text r c rest) → (if b then skip class text else d ∷ text) ≡ c ∷ rest → RunOn class (d ∷ text) r c rest
    by true h more is = let m = more is in record { prefix = rw h (ap (λ t. d ∷ t) m.prefix); end = rw h m.end }
    by false h more is = record { prefix = rw h refl; end = rw h (ap (λ t. t ++ r) is) }

abbrev numeric_at : ℕ → List Located → Option ℕ × List Located
numeric_at base text = (Some (digits_from base 0 (digits base text)), skip (is_digit_of base) text)

numeric-extend : (base : ℕ) (text r : List Located) (what : Option ℕ) (c : Located) (rest : List Located) → numeric_scan base text ≡ Some (what, c ∷ rest) → numeric_scan base (text ++ r) ≡ Some (what, c ∷ rest ++ r)
numeric-extend base [] r what c rest is = cc
numeric-extend base (d ∷ text) r what c rest is = by (is_digit_of base d.char) refl is
  where
    by : (b : Bool) → is_digit_of base d.char ≡ b → (if b then Some (numeric_at base (d ∷ text)) else None) ≡ Some (what, c ∷ rest)
        → (if b then Some (numeric_at base (d ∷ text ++ r)) else None) ≡ Some (what, c ∷ rest ++ r)
    by true h is =
        let both : numeric_at base (d ∷ text) ≡ (what, c ∷ rest) = cc in
        let on = run-on (is_digit_of base) (d ∷ text) r c rest (ap (λ x. x.1) both) in
        (λ j. Some ((ap (λ t. Some (digits_from base 0 (characters t))) on.prefix ∙ ap (λ x. x.0) both) j, on.end j))
    by false h is = absurd (let impossible : ⊥ = cc in impossible)

short-extend : (o : Option ℕ) (text r : List Located) (what : Option ℕ) (c : Located) (rest : List Located) → 0 < length text → short_or_decimal o text ≡ Some (what, c ∷ rest) → short_or_decimal o (text ++ r) ≡ Some (what, c ∷ rest ++ r)
short-extend (Some code) [] r what c rest some is = absurd (omega arith)
short-extend (Some code) (d ∷ text) r what c rest some is =
    let both : a_scan (Some code) text ≡ a_scan what (c ∷ rest) = cc in
    ap (λ x. Some (a_scan x.0 (x.1 ++ r))) both
short-extend None text r what c rest some is = numeric-extend 10 text r what c rest is

plain-extend : (code : Option ℕ) (text r : List Located) (what : Option ℕ) (c : Located) (rest : List Located) → Some (a_scan code text) ≡ Some (a_scan what (c ∷ rest)) → Some (a_scan code (text ++ r)) ≡ Some (a_scan what (c ∷ rest ++ r))
plain-extend code text r what c rest is =
    let both : a_scan code text ≡ a_scan what (c ∷ rest) = cc in
    ap (λ x. Some (a_scan x.0 (x.1 ++ r))) both

escape-extend : (text r : List Located) (what : Option ℕ) (c : Located) (rest : List Located) → escape_scan text ≡ Some (what, c ∷ rest) → escape_scan (text ++ r) ≡ Some (what, c ∷ rest ++ r)
escape-extend [] r what c rest is = cc
escape-extend (d ∷ text) r what c rest is = by (d.char == byte "&") (d.char == byte "x") (d.char == byte "o") is
  where
    by : (a x o : Bool) → (if a then Some (None, text) else if x then numeric_scan 16 text else if o then numeric_scan 8 text else short_or_decimal (short_escape (d.char ∷ [])) (d ∷ text)) ≡ Some (what, c ∷ rest)
        → (if a then Some (None, text ++ r) else if x then numeric_scan 16 (text ++ r) else if o then numeric_scan 8 (text ++ r) else short_or_decimal (short_escape (d.char ∷ [])) (d ∷ text ++ r)) ≡ Some (what, c ∷ rest ++ r)
    by true x o is = plain-extend None text r what c rest is
    by false true o is = numeric-extend 16 text r what c rest is
    by false false true is = numeric-extend 8 text r what c rest is
    by false false false is = short-extend (short_escape (d.char ∷ [])) (d ∷ text) r what c rest (omega arith) is

pub item-extend : (quote : ℕ) (text r : List Located) (what : Option ℕ) (c : Located) (rest : List Located) → item_scan quote text ≡ Some (what, c ∷ rest) → item_scan quote (text ++ r) ≡ Some (what, c ∷ rest ++ r)
item-extend quote [] r what c rest is = cc
item-extend quote (d ∷ text) r what c rest is = by (d.char == byte "\\") (d.char == quote || is_ascii_control d.char) is
  where
    by : (a b : Bool) → (if a then escape_scan text else if b then None else Some (Some d.char, text)) ≡ Some (what, c ∷ rest)
        → (if a then escape_scan (text ++ r) else if b then None else Some (Some d.char, text ++ r)) ≡ Some (what, c ∷ rest ++ r)
    by true b is = escape-extend text r what c rest is
    by false true is = cc
    by false false is = plain-extend (Some d.char) text r what c rest is

-- ---- more text after the quote that closes a literal

-- a quote is no item
pub quote-none : (quote : ℕ) (c : Located) (text : List Located) → (quote == 92) ≡ false → c.char ≡ quote → item_scan quote (c ∷ text) ≡ None
quote-none quote c text other at =
    let no_backslash : (c.char == 92) ≡ false = ap (λ x. x == 92) at ∙ other in
    let same : (c.char == quote) ≡ true = eq-eqb c.char quote at in
    rw (no_backslash, same) refl

pub record Extended (quote : ℕ) (text r : List Located) (c : Located) : Type 0 where
  pub over : (cut_all (item quote) (text ++ r)).left ≡ c ∷ r
  pub pieces : (cut_all (item quote) (text ++ r)).pieces ≡ (cut_all (item quote) text).pieces

left-none : (quote : ℕ) (text : List Located) → item_scan quote text ≡ None → (cut_all (item quote) text).left ≡ text
left-none quote text is = ap (λ cut. cut.left) (ended quote text is)

pub extended : (quote n : ℕ) (text r : List Located) (c : Located) → length text ≤ n → (quote == 92) ≡ false → c.char ≡ quote → (cut_all (item quote) text).left ≡ c ∷ [] → Extended quote text r c
extended quote n [] r c fits other at is = absurd (let e : (cut_all (item quote) []).left ≡ [] = left-none quote [] refl in let impossible : ⊥ = cc in impossible)
extended quote zero (d ∷ text) r c fits other at is = absurd (omega arith)
extended quote (suc n) (d ∷ text) r c fits other at is =
    by (item_scan quote (d ∷ text)) refl (λ rest small left. extended quote n rest r c small other at left)
  where
    by : (s : Scan) → item_scan quote (d ∷ text) ≡ s → ((rest : List Located) → length rest ≤ n → (cut_all (item quote) rest).left ≡ c ∷ [] → Extended quote rest r c) → Extended quote (d ∷ text) r c
    by None none more =
        let left : d ∷ text ≡ c ∷ [] = sym (left-none quote (d ∷ text) none) ∙ is in
        let whole : d ∷ text ++ r ≡ c ∷ r = ap (λ t. t ++ r) left in
        let none' = quote-none quote c r other at in
        record {
          over = ap (λ t. (cut_all (item quote) t).left) whole ∙ left-none quote (c ∷ r) none';
          pieces = ap (λ t. (cut_all (item quote) t).pieces) whole ∙ ap (λ cut. cut.pieces) (ended quote (c ∷ r) none') ∙ sym (ap (λ cut. cut.pieces) (ended quote (d ∷ text) none));
        }
    by (Some (what, [])) some more =
        let found = longest-item quote (d ∷ text) what [] some in
        let step = ap (λ cut. cut.left) (cut-step (item quote) d text (cut_at found.0 [] what) found.1) in
        let none : (cut_all (item quote) []).left ≡ [] = left-none quote [] refl in
        absurd (let impossible : ⊥ = cc in impossible)
    by (Some (what, e ∷ rest)) some more =
        let found = longest-item quote (d ∷ text) what (e ∷ rest) some in
        let step = cut-step (item quote) d text (cut_at found.0 (e ∷ rest) what) found.1 in
        let shorter = rest-shorter (item quote) (d ∷ text) (cut_at found.0 (e ∷ rest) what) found.1 in
        let later' = more (e ∷ rest) (omega arith) (sym (ap (λ cut. cut.left) step) ∙ is) in
        let found' = longest-item quote (d ∷ text ++ r) what (e ∷ rest ++ r) (item-extend quote (d ∷ text) r what e rest some) in
        let step' = cut-step (item quote) d (text ++ r) (cut_at found'.0 (e ∷ rest ++ r) what) found'.1 in
        record {
          over = ap (λ cut. cut.left) step' ∙ later'.over;
          pieces = ap (λ cut. cut.pieces) step' ∙ ap (λ ps. record { what = what; at = d.at } ∷ ps) later'.pieces ∙ sym (ap (λ cut. cut.pieces) step);
        }

-- ---- the same items before the quote alone

pub record Before (quote : ℕ) (text end : List Located) (c : Located) : Type 0 where
  pub prefix : List Located
  pub whole : prefix ++ end ≡ text
  pub over : (cut_all (item quote) prefix).left ≡ c ∷ []
  pub pieces : (cut_all (item quote) prefix).pieces ≡ (cut_all (item quote) text).pieces

pub before : (quote n : ℕ) (text end : List Located) (c : Located) → length text ≤ n → (quote == 92) ≡ false → c.char ≡ quote → (cut_all (item quote) text).left ≡ c ∷ end → Before quote text end c
before quote n [] end c fits other at is = absurd (let e : (cut_all (item quote) []).left ≡ [] = left-none quote [] refl in let impossible : ⊥ = cc in impossible)
before quote zero (d ∷ text) end c fits other at is = absurd (omega arith)
before quote (suc n) (d ∷ text) end c fits other at is =
    by (item_scan quote (d ∷ text)) refl (λ rest small left. before quote n rest end c small other at left)
  where
    by : (s : Scan) → item_scan quote (d ∷ text) ≡ s → ((rest : List Located) → length rest ≤ n → (cut_all (item quote) rest).left ≡ c ∷ end → Before quote rest end c) → Before quote (d ∷ text) end c
    by None none more =
        let left : d ∷ text ≡ c ∷ end = sym (left-none quote (d ∷ text) none) ∙ is in
        let none' = quote-none quote c [] other at in
        record {
          prefix = c ∷ [];
          whole = sym left;
          over = left-none quote (c ∷ []) none';
          pieces = ap (λ cut. cut.pieces) (ended quote (c ∷ []) none') ∙ sym (ap (λ cut. cut.pieces) (ended quote (d ∷ text) none));
        }
    by (Some (what, rest)) some more =
        let found = longest-item quote (d ∷ text) what rest some in
        let step = cut-step (item quote) d text (cut_at found.0 rest what) found.1 in
        let shorter = rest-shorter (item quote) (d ∷ text) (cut_at found.0 rest what) found.1 in
        let inner = more rest (omega arith) (sym (ap (λ cut. cut.left) step) ∙ is) in
        let law = longest-is (item quote) (d ∷ text) (cut_at found.0 rest what) found.1 in
        joined-prefix found.0 inner.prefix rest what inner.whole inner.over inner.pieces law step
      where
        joined-prefix : (f g rest : List Located) (what : Option ℕ) → g ++ end ≡ rest → (cut_all (item quote) g).left ≡ c ∷ [] → (cut_all (item quote) g).pieces ≡ (cut_all (item quote) rest).pieces
            → IsLongest (item quote) (d ∷ text) (cut_at f rest what) → cut_all (item quote) (d ∷ text) ≡ with_piece what d.at (cut_all (item quote) rest) → Before quote (d ∷ text) end c
        joined-prefix [] g rest what whole over pieces law step = absurd (let some = law.some in omega arith)
        joined-prefix (e ∷ f) g rest what whole over pieces law step =
            let head : e ≡ d = (let w = law.whole in cc) in
            let all : (e ∷ f ++ g) ++ end ≡ d ∷ text = append_assoc (e ∷ f) g end ∙ ap (λ t. e ∷ f ++ t) whole ∙ law.whole in
            let short = is-longest (item quote) (e ∷ f ++ g) (cut_at (e ∷ f) g what) (record {
              whole = refl;
              some = omega arith;
              allowed = law.allowed;
              most = λ h r w s. law.most h (r ++ end) (sym (append_assoc h r end) ∙ ap (λ t. t ++ end) w ∙ all) s;
            }) in
            let step' = cut-step (item quote) e (f ++ g) (cut_at (e ∷ f) g what) short in
            record {
              prefix = e ∷ f ++ g;
              whole = all;
              over = ap (λ cut. cut.left) step' ∙ over;
              pieces = ap (λ cut. cut.pieces) step' ∙ (λ j. record { what = what; at = (head j).at } ∷ pieces j) ∙ sym (ap (λ cut. cut.pieces) step);
            }

-- ---- prefixes that are literals

record Between (quote : ℕ) (f : List Located) (items : List (Placed (Option ℕ))) : Type 0 where
  first : Located
  inside : List Located
  close : Located
  prefix : f ≡ first ∷ inside
  over : (cut_all (item quote) inside).left ≡ close ∷ []
  is : close.char ≡ quote
  pieces : (cut_all (item quote) inside).pieces ≡ items

one-left : (quote : ℕ) (rest : List Located) → bytes_eq (characters rest) (quote ∷ []) ≡ true → (c : Located) × (rest ≡ c ∷ []) × (c.char ≡ quote)
one-left quote rest is = by rest ((bytes_eq-Decides (characters rest) (quote ∷ [])).0 is)
  where
    by : (rest : List Located) → characters rest ≡ quote ∷ [] → (c : Located) × (rest ≡ c ∷ []) × (c.char ≡ quote)
    by [] at = absurd (let impossible : ⊥ = cc in impossible)
    by (c ∷ []) at = let same : c.char ≡ quote = cc in (c, refl, same)
    by (c ∷ d ∷ rest) at = absurd (let impossible : ⊥ = cc in impossible)

between : (quote : ℕ) (f : List Located) (items : List (Placed (Option ℕ))) → items_between quote f ≡ Some items → Between quote f items
unfolding items_between
between quote [] items is = cc
between quote (first ∷ f) items is = by (first.char == quote) (bytes_eq (characters (cut_all (item quote) f).left) (quote ∷ [])) refl is
  where
    by : (a b : Bool) → bytes_eq (characters (cut_all (item quote) f).left) (quote ∷ []) ≡ b → (if a && b then Some (cut_all (item quote) f).pieces else None) ≡ Some items → Between quote (first ∷ f) items
    by true true h is =
        let one = one-left quote (cut_all (item quote) f).left h in
        let same : (cut_all (item quote) f).pieces ≡ items = cc in
        record { first = first; inside = f; close = one.0; prefix = refl; over = one.1; is = one.2; pieces = same }
    by true false h is = absurd (let impossible : ⊥ = cc in impossible)
    by false b h is = absurd (let impossible : ⊥ = cc in impossible)

items-are : (quote : ℕ) (first close : Located) (inside : List Located) → first.char ≡ quote → close.char ≡ quote → (cut_all (item quote) inside).left ≡ close ∷ [] → items_between quote (first ∷ inside) ≡ Some (cut_all (item quote) inside).pieces
unfolding items_between
items-are quote first close inside at at' over =
    let test : (first.char == quote) ≡ true = eq-eqb first.char quote at in
    let last : bytes_eq (characters (cut_all (item quote) inside).left) (quote ∷ []) ≡ true = (bytes_eq-Decides (characters (cut_all (item quote) inside).left) (quote ∷ [])).1 (ap characters over ∙ ap (λ c. c ∷ []) at') in
    rw (test, last) refl

-- the items of a prefix are those of the text
pub record Whole (quote : ℕ) (text r : List Located) (items : List (Placed (Option ℕ))) : Type 0 where
  pub close : Located
  pub is : close.char ≡ quote
  pub over : (cut_all (item quote) (later text)).left ≡ close ∷ r
  pub pieces : (cut_all (item quote) (later text)).pieces ≡ items

pub whole-items : (quote : ℕ) (f r text : List Located) (items : List (Placed (Option ℕ))) → (quote == 92) ≡ false → f ++ r ≡ text → items_between quote f ≡ Some items → Whole quote text r items
whole-items quote f r text items other whole is =
    let b = between quote f items is in
    let e = extended quote (length b.inside) b.inside r b.close (omega arith) other b.is b.over in
    let at : b.inside ++ r ≡ later text = ap (λ t. later (t ++ r)) (sym b.prefix) ∙ ap later whole in
    record {
      close = b.close;
      is = b.is;
      over = ap (λ t. (cut_all (item quote) t).left) (sym at) ∙ e.over;
      pieces = ap (λ t. (cut_all (item quote) t).pieces) (sym at) ∙ e.pieces ∙ b.pieces;
    }

-- the prefix that ends at the quote
pub record Quoted (quote : ℕ) (text end : List Located) : Type 0 where
  pub prefix : List Located
  pub whole : prefix ++ end ≡ text
  pub some : 0 < length prefix
  pub items : items_between quote prefix ≡ Some (cut_all (item quote) (later text)).pieces

pub quoted-prefix : (quote : ℕ) (text end : List Located) → (quote == 92) ≡ false → begins_with (is_char quote) (characters text) ≡ true → IsQuoted quote (cut_all (item quote) (later text)).left end → Quoted quote text end
quoted-prefix quote [] end other begins q = absurd (true≢false (sym begins))
quoted-prefix quote (first ∷ text) end other begins q =
    let b = before quote (length text) text end q.mark (omega arith) other q.is q.whole in
    record {
      prefix = first ∷ b.prefix;
      whole = ap (λ t. first ∷ t) b.whole;
      some = omega arith;
      items = items-are quote first q.mark b.prefix (eqb-true first.char quote begins) q.is b.over ∙ ap Some b.pieces;
    }

pub quote-alone : (text : List Located) → begins_with (is_char 39) (characters text) ≡ true → IsAlone text
unfolding is_symbol is_separator
quote-alone text is = alone (is_char 39) (λ c h. let at = eqb-true c 39 h in omega arith) refl refl refl refl refl refl text is

pub quotes-alone : (text : List Located) → begins_with (is_char 34) (characters text) ≡ true → IsAlone text
unfolding is_symbol is_separator
quotes-alone text is = alone (is_char 34) (λ c h. let at = eqb-true c 34 h in omega arith) refl refl refl refl refl refl text is

quote-digit : (w : List ℕ) → begins_with (is_char 39) w ≡ true → (begins_with is_ascii_digit w ≡ false) × (begins_with (is_char 34) w ≡ false)
quote-digit w is = (begins-apart (is_char 39) is_ascii_digit (λ c h. let at = eqb-true c 39 h in omega arith) refl w is, begins-apart (is_char 39) (is_char 34) (λ c h. let at = eqb-true c 39 h in omega arith) refl w is)

quotes-digit : (w : List ℕ) → begins_with (is_char 34) w ≡ true → (begins_with is_ascii_digit w ≡ false) × (begins_with (is_char 39) w ≡ false)
quotes-digit w is = (begins-apart (is_char 34) is_ascii_digit (λ c h. let at = eqb-true c 34 h in omega arith) refl w is, begins-apart (is_char 34) (is_char 39) (λ c h. let at = eqb-true c 34 h in omega arith) refl w is)

number-no : (f r text : List Located) → f ++ r ≡ text → 0 < length f → begins_with is_ascii_digit (characters text) ≡ false → number (start f) (characters f) (characters r) ≡ None
number-no f r text whole some digit = rw (number-none (characters f) (characters r) (prefix-first is_ascii_digit f r text whole some ∙ digit)) refl

string-piece : (f r : List Located) (items : List (Placed (Option ℕ))) → blank (characters f) ≡ None → word (characters f) (characters r) ≡ None → number (start f) (characters f) (characters r) ≡ None → items_between 39 f ≡ None → items_between 34 f ≡ Some items
    → piece f r ≡ Some (string items)
unfolding piece
string-piece f r items a b c d e = rw (a, b, c, d, e) refl

character-piece : (f r : List Located) (what : Piece) → blank (characters f) ≡ None → word (characters f) (characters r) ≡ None → number (start f) (characters f) (characters r) ≡ None → option_and_then one_character (items_between 39 f) ≡ Some what
    → piece f r ≡ Some what
unfolding piece
character-piece f r what a b c d = rw (a, b, c, d) refl

some-of : {X : Type 0} (o : Option X) → IsSome o → (x : X) × (o ≡ Some x)
some-of None is = absurd (true≢false (sym is))
some-of (Some x) is = (x, refl)

-- ---- strings

pub string-longest : (text end : List Located) → begins_with (is_char 34) (characters text) ≡ true → IsQuoted 34 ((string_items text).left) end
    → (prefix : List Located) × (longest piece text ≡ Some (cut_at prefix end (string (string_items text).pieces)))
string-longest text end begins q =
    let prefix = quoted-prefix 34 text end refl begins q in (
      prefix.prefix,
      piece-longest text prefix.prefix end (string (string_items text).pieces) prefix.whole prefix.some
          (string-piece prefix.prefix end (string_items text).pieces (alone-blank prefix.prefix end text prefix.whole prefix.some (quotes-alone text begins)) (alone-word prefix.prefix end text prefix.whole prefix.some (quotes-alone text begins))
          (number-no prefix.prefix end text prefix.whole prefix.some (quotes-digit (characters text) begins).0)
          (literal-none 39 prefix.prefix (prefix-first (is_char 39) prefix.prefix end text prefix.whole prefix.some ∙ (quotes-digit (characters text) begins).1)) prefix.items)
          (λ f r whole some p. shorter-prefix f r prefix.prefix end text whole prefix.whole (most f r whole some p)),
    )
  where
    most : (f r : List Located) → f ++ r ≡ text → 0 < length f → PieceIs f r → length end ≤ length r
    most f r w s (blank_prefix h) = absurd (not-some (blank (characters f)) (alone-blank f r text w s (quotes-alone text begins)) h)
    most f r w s (word_prefix h) = absurd (alone-no-word f r text w s (quotes-alone text begins) h)
    most f r w s (number_prefix h) = absurd (no-number f r text w s (quotes-digit (characters text) begins).0 h)
    most f r w s (character_prefix h) = absurd (no-character f r text w s (quotes-digit (characters text) begins).1 h)
    most f r w s (string_prefix h) =
        let items = some-of (items_between 34 f) h in
        let all = whole-items 34 f r text items.0 refl w items.1 in
        let same : q.mark ∷ end ≡ all.close ∷ r = sym q.whole ∙ all.over in
        let tails : end ≡ r = cc in
        let sizes = ap length tails in
        omega arith

pub string-never : (text : List Located) → begins_with (is_char 34) (characters text) ≡ true → ((end : List Located) → IsQuoted 34 ((string_items text).left) end → ⊥) → longest piece text ≡ None
string-never text begins never = piece-none text bad
  where
    bad : (f r : List Located) → f ++ r ≡ text → 0 < length f → PieceIs f r → ⊥
    bad f r w s (blank_prefix h) = not-some (blank (characters f)) (alone-blank f r text w s (quotes-alone text begins)) h
    bad f r w s (word_prefix h) = alone-no-word f r text w s (quotes-alone text begins) h
    bad f r w s (number_prefix h) = no-number f r text w s (quotes-digit (characters text) begins).0 h
    bad f r w s (character_prefix h) = no-character f r text w s (quotes-digit (characters text) begins).1 h
    bad f r w s (string_prefix h) =
        let items = some-of (items_between 34 f) h in
        let all = whole-items 34 f r text items.0 refl w items.1 in
        never r (record { mark = all.close; is = all.is; whole = all.over })

-- ---- characters

-- one item with a code
pub record IsOne (text end : List Located) (n : ℕ) (p : Position) : Type 0 where
  pub quoted : IsQuoted 39 ((cut_all (item 39) (later text)).left) end
  pub pieces : (cut_all (item 39) (later text)).pieces ≡ record { what = Some n; at = p } ∷ []

one-item : (items : List (Placed (Option ℕ))) → IsSome (one_character items) → (n : ℕ) × (p : Position) × (items ≡ record { what = Some n; at = p } ∷ [])
one-item [] is = absurd (true≢false (sym is))
one-item (i ∷ []) is = by i.what refl is
  where
    by : (o : Option ℕ) → i.what ≡ o → IsSome (option_map (character_at i.at) o) → (n : ℕ) × (p : Position) × (i ∷ [] ≡ record { what = Some n; at = p } ∷ [])
    by None at is = absurd (true≢false (sym is))
    by (Some n) at is = (n, i.at, (λ j. record { what = at j; at = i.at } ∷ []))
one-item (i ∷ j ∷ items) is = absurd (true≢false (sym is))

character-prefix-is : (f r text : List Located) → f ++ r ≡ text → IsSome (option_and_then one_character (items_between 39 f)) → (n : ℕ) × (p : Position) × IsOne text r n p
character-prefix-is f r text w is = by (items_between 39 f) refl is
  where
    by : (o : Option (List (Placed (Option ℕ)))) → items_between 39 f ≡ o → IsSome (option_and_then one_character o) → (n : ℕ) × (p : Position) × IsOne text r n p
    by None at is = absurd (true≢false (sym is))
    by (Some items) at is =
        let one = one-item items is in
        let all = whole-items 39 f r text items refl w at in
        (one.0, one.1, record { quoted = record { mark = all.close; is = all.is; whole = all.over }; pieces = all.pieces ∙ one.2 })

pub character-longest : (text end : List Located) (n : ℕ) (p : Position) → begins_with (is_char 39) (characters text) ≡ true → IsOne text end n p
    → (prefix : List Located) × (longest piece text ≡ Some (cut_at prefix end (character_at p n)))
character-longest text end n p begins one =
    let prefix = quoted-prefix 39 text end refl begins one.quoted in (
      prefix.prefix,
      piece-longest text prefix.prefix end (character_at p n) prefix.whole prefix.some
          (character-piece prefix.prefix end (character_at p n) (alone-blank prefix.prefix end text prefix.whole prefix.some (quote-alone text begins)) (alone-word prefix.prefix end text prefix.whole prefix.some (quote-alone text begins))
          (number-no prefix.prefix end text prefix.whole prefix.some (quote-digit (characters text) begins).0)
          (ap (option_and_then one_character) prefix.items ∙ ap one_character one.pieces))
          (λ f r whole some q. shorter-prefix f r prefix.prefix end text whole prefix.whole (most f r whole some q)),
    )
  where
    most : (f r : List Located) → f ++ r ≡ text → 0 < length f → PieceIs f r → length end ≤ length r
    most f r w s (blank_prefix h) = absurd (not-some (blank (characters f)) (alone-blank f r text w s (quote-alone text begins)) h)
    most f r w s (word_prefix h) = absurd (alone-no-word f r text w s (quote-alone text begins) h)
    most f r w s (number_prefix h) = absurd (no-number f r text w s (quote-digit (characters text) begins).0 h)
    most f r w s (string_prefix h) = absurd (no-literal 34 f r text w s (quote-digit (characters text) begins).1 h)
    most f r w s (character_prefix h) =
        let found = character-prefix-is f r text w h in
        let q' = found.2.quoted in
        let same : one.quoted.mark ∷ end ≡ q'.mark ∷ r = sym one.quoted.whole ∙ q'.whole in
        let tails : end ≡ r = cc in
        let sizes = ap length tails in
        omega arith

pub character-never : (text : List Located) → begins_with (is_char 39) (characters text) ≡ true → ((end : List Located) (n : ℕ) (p : Position) → IsOne text end n p → ⊥) → longest piece text ≡ None
character-never text begins never = piece-none text bad
  where
    bad : (f r : List Located) → f ++ r ≡ text → 0 < length f → PieceIs f r → ⊥
    bad f r w s (blank_prefix h) = not-some (blank (characters f)) (alone-blank f r text w s (quote-alone text begins)) h
    bad f r w s (word_prefix h) = alone-no-word f r text w s (quote-alone text begins) h
    bad f r w s (number_prefix h) = no-number f r text w s (quote-digit (characters text) begins).0 h
    bad f r w s (string_prefix h) = no-literal 34 f r text w s (quote-digit (characters text) begins).1 h
    bad f r w s (character_prefix h) = let found = character-prefix-is f r text w h in never r found.0 found.1 found.2

-- one item, as it is read
pub one-from : (first : Located) (text close end : List Located) (n : ℕ) → item_scan 39 text ≡ Some (Some n, close) → IsQuoted 39 close end → (p : Position) × ((c : Located) (t : List Located) → text ≡ c ∷ t → p ≡ c.at) × IsOne (first ∷ text) end n p
one-from first [] close end n is q = absurd (let impossible : ⊥ = cc in impossible)
one-from first (c ∷ text) close end n is q =
    let found = longest-item 39 (c ∷ text) (Some n) close is in
    let step = cut-step (item 39) c text (cut_at found.0 close (Some n)) found.1 in
    let none : item_scan 39 close ≡ None = ap (item_scan 39) q.whole ∙ quote-none 39 q.mark end refl q.is in (
      c.at,
      (λ d t at. ap (λ l. l.at) (let h : c ≡ d = cc in h)),
      record {
        quoted = record { mark = q.mark; is = q.is; whole = ap (λ cut. cut.left) step ∙ left-none 39 close none ∙ q.whole };
        pieces = ap (λ cut. cut.pieces) step ∙ ap (λ ps. record { what = Some n; at = c.at } ∷ ps) (ap (λ cut. cut.pieces) (ended 39 close none));
      },
    )

-- what is read, from one item
abbrev placed : Option ℕ → Position → Placed (Option ℕ)
placed what p = record { what = what; at = p }

pub scan-from : (text end : List Located) (n : ℕ) (p : Position) → IsOne text end n p → (close : List Located) × (item_scan 39 (later text) ≡ Some (Some n, close)) × IsQuoted 39 close end
scan-from text end n p one = by (later text) one.quoted one.pieces (item_scan 39 (later text)) refl
  where
    inner : (rest : List Located) → (cut_all (item 39) rest).pieces ≡ [] → (cut_all (item 39) rest).left ≡ rest
    inner [] none = left-none 39 [] refl
    inner (c ∷ rest) none = on (item_scan 39 (c ∷ rest)) refl
      where
        on : (s : Scan) → item_scan 39 (c ∷ rest) ≡ s → (cut_all (item 39) (c ∷ rest)).left ≡ c ∷ rest
        on None at = left-none 39 (c ∷ rest) at
        on (Some (what, left)) at =
            let found = longest-item 39 (c ∷ rest) what left at in
            let step = ap (λ cut. cut.pieces) (cut-step (item 39) c rest (cut_at found.0 left what) found.1) in
            absurd (let impossible : ⊥ = cc in impossible)

    by : (text : List Located) → IsQuoted 39 ((cut_all (item 39) text).left) end → (cut_all (item 39) text).pieces ≡ record { what = Some n; at = p } ∷ [] → (s : Scan) → item_scan 39 text ≡ s
        → (close : List Located) × (item_scan 39 text ≡ Some (Some n, close)) × IsQuoted 39 close end
    by [] q pieces s at = absurd (let none : (cut_all (item 39) []).pieces ≡ [] = ap (λ cut. cut.pieces) (ended 39 [] refl) in let impossible : ⊥ = cc in impossible)
    by (c ∷ text) q pieces None at = absurd (let none : (cut_all (item 39) (c ∷ text)).pieces ≡ [] = ap (λ cut. cut.pieces) (ended 39 (c ∷ text) at) in let impossible : ⊥ = cc in impossible)
    by (c ∷ text) q pieces (Some (what, rest)) at =
        let found = longest-item 39 (c ∷ text) what rest at in
        let step = cut-step (item 39) c text (cut_at found.0 rest what) found.1 in
        let all : placed what c.at ∷ (cut_all (item 39) rest).pieces ≡ placed (Some n) p ∷ [] = sym (ap (λ cut. cut.pieces) step) ∙ pieces in
        let none : (cut_all (item 39) rest).pieces ≡ [] = cc in
        let head : placed what c.at ≡ placed (Some n) p = cc in
        let code : what ≡ Some n = ap (λ i. i.what) head in
        let over : (cut_all (item 39) (c ∷ text)).left ≡ rest = ap (λ cut. cut.left) step ∙ inner rest none in
        (rest, at ∙ ap (λ x. Some (x, rest)) code, record { mark = q.mark; is = q.is; whole = sym over ∙ q.whole })
