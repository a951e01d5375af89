-- Qualified words, comments, blanks and marks are the longest pieces.
use Rattle.std.proofs.Common.{◌≡◌, ℕ, zero, suc, ◌<◌, ◌≤◌, ◌⊎◌, inl, inr, Bool, true, false, ◌&&◌, ◌||◌, ◌==◌, not, List, [], ◌∷◌, ◌++◌, length, Option, Some, None, is_none, is_some, IsSome, if◌then◌else◌, refl, sym, ap, subst, ◌∙◌, arith, true≢false, nat_le, eqb-true, eq-eqb, ne_eqb, append_assoc, codes}
use Rattle.std.proofs.lemmas.List.{length-append, map-append}
use Rattle.std.proofs.lemmas.Slice.Eq.{bytes_eq-Decides}
use Rattle.std.specs.Char.{is_ascii_digit, is_ascii_lowercase, is_ascii_uppercase}
use Rattle.std.specs.List.{list_all}
use Rattle.std.specs.Str.{bytes_eq}
use Rattle.cu_lex.specs.declared.token.Keyword as keywords_are
use Rattle.cu_lex.specs.declared.token.Mark as mark
use Rattle.cu_lex.specs.declared.token.Mark.TheVariants as marks_are
use Rattle.cu_lex.specs.declared.word.WordKind.{WordKind}
use Rattle.cu_lex.specs.declared.word.WordKind.TheVariants as kind
use Rattle.cu_lex.specs.Inside.Chains.{Reaches}
use Rattle.cu_lex.specs.Inside.Chains.Reaches.{last}
use Rattle.cu_lex.specs.Kind.{Kind}
use Rattle.cu_lex.specs.Kind.Kind.{Mark}
use Rattle.cu_lex.specs.Inside.Lexing.{IsPlain, OpensComment}
use Rattle.cu_lex.specs.Located.{Located, characters}
use Rattle.cu_lex.specs.Munch.{cut_at, longest}
use Rattle.cu_lex.specs.Pieces.{Piece, piece, blank, word_kind, stands_before}
use Rattle.cu_lex.specs.Pieces.Piece.{Blank, Token}
use Rattle.cu_lex.specs.Inside.Scanning.{is_underscore, first_of, later, run, skip, is_base, class_of, comment_end, IsWord, IsOfKind, HasNoWord}
use Rattle.cu_lex.specs.Words.{entry, begins_with, is_single, is_separator, is_name_character, is_symbol, is_dash, keyword_of, mark_of, marks, is_line_comment, is_nested_comment, closes, has_variable_form}
use Rattle.cu_lex.proofs.AsciiLemmas.{and-left, and-right, small-capital, small-separator}
use Rattle.cu_lex.proofs.ChainLemmas.{var-form, form-first, keyword-small, reserved-symbol, con-capital, operator-first, first-prefix, word-first, symbol-capitals, capital-small, class-cases, none-is}
use Rattle.cu_lex.proofs.ClassLemmas.{begins-apart, no-number, no-literal, no-character, mark-size, comment-first, is-comment, word-some, word-most, word-piece, word-brace, dashes-comment, comment-inline, nested-first, single-first}
use Rattle.cu_lex.proofs.FirstLemmas.{begins_blank, is_char, blank-none, reserved-first, keyword-form, mark-none, capital-mark}
use Rattle.cu_lex.proofs.PieceLemmas.{PrefixIs, prefix-cases, PieceIs, piece-longest, piece-none, prefix-first, shorter-prefix, dash-symbol, dashes-run}
use Rattle.cu_lex.proofs.PieceLemmas.PieceIs.{blank_prefix, word_prefix, number_prefix, character_prefix, string_prefix}
use Rattle.cu_lex.proofs.PieceLemmas.PrefixIs.{plain, marked, chained}
use Rattle.cu_lex.proofs.ScanLemmas.{run-skip, all-run}
use Rattle.cu_lex.proofs.ItemLemmas.{run-most, not-some}

-- ---- at capitals

-- a text that a capital begins has no blanks, numbers or literals before its word
capital-blank : (w : List ℕ) → begins_with is_ascii_uppercase w ≡ true → begins_with begins_blank w ≡ false
unfolding is_separator
capital-blank w is = begins-apart is_ascii_uppercase begins_blank small-capital refl w is

capital-digit : (w : List ℕ) → begins_with is_ascii_uppercase w ≡ true → begins_with is_ascii_digit w ≡ false
capital-digit w is = begins-apart is_ascii_uppercase is_ascii_digit small-capital refl w is

capital-quote : (w : List ℕ) → begins_with is_ascii_uppercase w ≡ true → begins_with (is_char 39) w ≡ false
capital-quote w is = begins-apart is_ascii_uppercase (is_char 39) small-capital refl w is

capital-quotes : (w : List ℕ) → begins_with is_ascii_uppercase w ≡ true → begins_with (is_char 34) w ≡ false
capital-quotes w is = begins-apart is_ascii_uppercase (is_char 34) small-capital refl w is

capital-symbol : (w : List ℕ) → begins_with is_ascii_uppercase w ≡ true → begins_with is_symbol w ≡ true → ⊥
capital-symbol w capital symbol = symbol-capitals w symbol capital

word-reaches : (text : List Located) (k : WordKind) (r : List Located) → begins_with is_ascii_uppercase (characters text) ≡ true → (w : IsWord text k r) → 0 < length w.prefix → Reaches r text
word-reaches text k r capital w some = by k w.is w refl
  where
    prefix-capital : begins_with is_ascii_uppercase (characters w.prefix) ≡ true
    prefix-capital = prefix-first is_ascii_uppercase w.prefix r text w.whole some ∙ capital

    by : (k' : WordKind) → IsOfKind k' (characters w.prefix) → IsWord text k' r → is_base k' ≡ is_base k' → Reaches r text
    by kind.VarId is w' same = last kind.VarId w' refl
    by kind.ConId is w' same = last kind.ConId w' refl
    by kind.VarOp is w' same = last kind.VarOp w' refl
    by kind.ConOp is w' same = last kind.ConOp w' refl
    by (kind.Keyword k') is w' same = absurd (none-is (keyword_of (characters w.prefix)) k' (ap is_none (keyword-small (characters w.prefix) (capital-small (characters w.prefix) prefix-capital))) is)
    by (kind.Reserved k') is w' same = absurd (capital-symbol (characters w.prefix) prefix-capital (reserved-first (characters w.prefix) k' is))
    by kind.Dashes is w' same = absurd (capital-symbol (characters w.prefix) prefix-capital (and-left (begins_with is_symbol (characters w.prefix)) (list_all is_symbol (characters w.prefix)) (dashes-run (characters w.prefix) is)))

pub capital-longest : (text prefix end : List Located) (what : Kind) → begins_with is_ascii_uppercase (characters text) ≡ true → prefix ++ end ≡ text → 0 < length prefix
    → word_kind (characters prefix) ≡ Some what → stands_before what (characters end) ≡ true → ((r : List Located) → Reaches r text → length end ≤ length r)
    → longest piece text ≡ Some (cut_at prefix end (Token what))
capital-longest text prefix end what capital whole some is ok reach =
    piece-longest text prefix end (Token what) whole some (word-piece prefix end what no-blank is ok) most
  where
    no-blank : blank (characters prefix) ≡ None
    no-blank = blank-none (characters prefix) (capital-blank (characters prefix) (prefix-first is_ascii_uppercase prefix end text whole some ∙ capital))

    from : (f r : List Located) → f ++ r ≡ text → 0 < length f → PrefixIs text f r → length f ≤ length prefix
    from f r w s (plain k w' other) = shorter-prefix f r prefix end text w whole (reach r (word-reaches text k r capital w' (word-some text k r w')))
    from f r w s (marked m at fits) = absurd (none-is (mark_of (characters f)) m (ap is_none (mark-none (characters f) (capital-mark (characters f) (prefix-first is_ascii_uppercase f r text w s ∙ capital)))) at)
    from f r w s (chained c reaches) = shorter-prefix f r prefix end text w whole (reach r reaches)

    most : (f r : List Located) → f ++ r ≡ text → 0 < length f → PieceIs f r → length f ≤ length prefix
    most f r w s (blank_prefix h) = absurd (not-some (blank (characters f)) (blank-none (characters f) (prefix-first begins_blank f r text w s ∙ capital-blank (characters text) capital)) h)
    most f r w s (word_prefix h) = from f r w s (prefix-cases text f r w h)
    most f r w s (number_prefix h) = absurd (no-number f r text w s (capital-digit (characters text) capital) h)
    most f r w s (character_prefix h) = absurd (no-character f r text w s (capital-quote (characters text) capital) h)
    most f r w s (string_prefix h) = absurd (no-literal 34 f r text w s (capital-quotes (characters text) capital) h)

-- ---- separators

separator-word : (w : List ℕ) → begins_with is_separator w ≡ true → (begins_with is_ascii_uppercase w ≡ false) × (begins_with is_ascii_digit w ≡ false) × (begins_with (is_char 39) w ≡ false) × (begins_with (is_char 34) w ≡ false)
    × (begins_with is_name_character w ≡ false) × (begins_with is_symbol w ≡ false) × (begins_with is_dash w ≡ false) × (begins_with (is_char 123) w ≡ false)
unfolding is_separator is_name_character is_symbol
separator-word w is = (
  begins-apart is_separator is_ascii_uppercase small-separator refl w is,
  begins-apart is_separator is_ascii_digit small-separator refl w is,
  begins-apart is_separator (is_char 39) small-separator refl w is,
  begins-apart is_separator (is_char 34) small-separator refl w is,
  begins-apart is_separator is_name_character small-separator refl w is,
  begins-apart is_separator is_symbol small-separator refl w is,
  begins-apart is_separator is_dash small-separator refl w is,
  begins-apart is_separator (is_char 123) small-separator refl w is,
)

-- no word is where neither names nor symbols nor marks begin
word-class : (text : List Located) (k : WordKind) (r : List Located) → begins_with is_name_character (characters text) ≡ false → begins_with is_symbol (characters text) ≡ false → IsWord text k r → ⊥
word-class text k r name symbol w = by (class-cases k)
  where
    by : (class_of k ≡ is_name_character) ⊎ (class_of k ≡ is_symbol) → ⊥
    by (inl h) = true≢false (sym (subst (λ p. begins_with p (characters text) ≡ true) h (word-first text k r w)) ∙ name)
    by (inr h) = true≢false (sym (subst (λ p. begins_with p (characters text) ≡ true) h (word-first text k r w)) ∙ symbol)

single-blank : (c : ℕ) → is_separator c ≡ true → blank (c ∷ []) ≡ Some Blank
single-blank c is = rw is refl

blank-piece : (f r : List Located) → blank (characters f) ≡ Some Blank → piece f r ≡ Some Blank
unfolding piece
blank-piece f r is = rw is refl

single-size : (f : List Located) → is_single is_separator (characters f) ≡ true → length f ≤ 1
single-size [] is = omega arith
single-size (c ∷ []) is = omega arith
single-size (c ∷ d ∷ f) is = absurd (true≢false (sym (and-right (is_separator c.char) false (subst (λ b. is_separator c.char && b ≡ true) long is))))
  where
    long : (length (characters (c ∷ d ∷ f)) == 1) ≡ false
    long = ne_eqb (length (characters (c ∷ d ∷ f))) 1 (λ h. absurd (omega arith))

separator-size : (f : List Located) → begins_with is_separator (characters f) ≡ true → IsSome (blank (characters f)) → length f ≤ 1
separator-size f sep some = by (is_single is_separator (characters f)) refl (is_line_comment (characters f)) refl (is_nested_comment (characters f)) refl some
  where
    by : (a : Bool) → is_single is_separator (characters f) ≡ a → (b : Bool) → is_line_comment (characters f) ≡ b → (c : Bool) → is_nested_comment (characters f) ≡ c → IsSome (if a || (b || c) then Some Blank else None) → length f ≤ 1
    by true ha b hb c hc is = single-size f ha
    by false ha true hb c hc is = absurd (true≢false (sym (comment-first (characters f) hb) ∙ (separator-word (characters f) sep).6))
    by false ha false hb true hc is = absurd (true≢false (sym hc ∙ nested-first (characters f) (separator-word (characters f) sep).7))
    by false ha false hb false hc is = absurd (true≢false (sym is))

pub separator-longest : (text : List Located) → begins_with is_separator (characters text) ≡ true → (prefix : List Located) × (longest piece text ≡ Some (cut_at prefix (later text) Blank))
separator-longest [] is = absurd (true≢false (sym is))
separator-longest (c ∷ text) is =
    (c ∷ [], piece-longest (c ∷ text) (c ∷ []) text Blank refl (omega arith) (blank-piece (c ∷ []) text (single-blank c.char is)) most)
  where
    from : (f r : List Located) → PrefixIs (c ∷ text) f r → length f ≤ 1
    from f r (plain k w other) = absurd (word-class (c ∷ text) k r (separator-word (characters (c ∷ text)) is).4 (separator-word (characters (c ∷ text)) is).5 w)
    from f r (marked m at fits) = mark-size f m at
    from f r (chained capital reaches) = absurd (true≢false (sym capital ∙ (separator-word (characters (c ∷ text)) is).0))

    most : (f r : List Located) → f ++ r ≡ c ∷ text → 0 < length f → PieceIs f r → length f ≤ 1
    most f r w s (blank_prefix h) = separator-size f (prefix-first is_separator f r (c ∷ text) w s ∙ is) h
    most f r w s (word_prefix h) = from f r (prefix-cases (c ∷ text) f r w h)
    most f r w s (number_prefix h) = absurd (no-number f r (c ∷ text) w s (separator-word (characters (c ∷ text)) is).1 h)
    most f r w s (character_prefix h) = absurd (no-character f r (c ∷ text) w s (separator-word (characters (c ∷ text)) is).2 h)
    most f r w s (string_prefix h) = absurd (no-literal 34 f r (c ∷ text) w s (separator-word (characters (c ∷ text)) is).3 h)

-- ---- dashes

dashes-inline : (v : List Located) (end : List Located) → list_all is_dash (characters v) ≡ true → run (λ c. not (c == 10)) (v ++ end) ≡ v ++ run (λ c. not (c == 10)) end
dashes-inline [] end all = refl
dashes-inline (c ∷ v) end all =
    let dash : c.char ≡ 45 = eqb-true c.char 45 (and-left (is_dash c.char) (list_all is_dash (characters v)) all) in
    let test : not (c.char == 10) ≡ true = ap (λ x. not (x == 10)) dash in
    rw test (ap (λ t. c ∷ t) (dashes-inline v end (and-right (is_dash c.char) (list_all is_dash (characters v)) all)))

or-blank : (b : Bool) → (if b || true then Some Blank else None) ≡ Some Blank
or-blank true = refl
or-blank false = refl

run-first : (p class : ℕ → Bool) (text : List Located) → begins_with p (characters text) ≡ false → begins_with p (characters (run class text)) ≡ false
run-first p class [] fails = refl
run-first p class (c ∷ text) fails = by (class c.char)
  where
    by : (b : Bool) → begins_with p (characters (if b then c ∷ run class text else [])) ≡ false
    by true = fails
    by false = refl

pub dashes-longest : (text end : List Located) → IsPlain text → (w : IsWord text kind.Dashes end)
    → longest piece text ≡ Some (cut_at (w.prefix ++ run (λ c. not (c == 10)) end) (skip (λ c. not (c == 10)) end) Blank)
dashes-longest text end facts w =
    piece-longest text (w.prefix ++ run class end) (skip class end) Blank
    (append_assoc w.prefix (run class end) (skip class end) ∙ ap (λ t. w.prefix ++ t) (run-skip class end) ∙ w.whole)
    (let s = word-some text kind.Dashes end w in omega (arith, length-append w.prefix (run class end)))
    (blank-piece (w.prefix ++ run class end) (skip class end) comment)
    most
  where
    class : ℕ → Bool
    class c = not (c == 10)

    dashes : list_all is_dash (characters w.prefix) ≡ true
    dashes = and-right (nat_le 2 (length (characters w.prefix))) (list_all is_dash (characters w.prefix)) w.is

    joined : characters (w.prefix ++ run class end) ≡ characters w.prefix ++ characters (run class end)
    joined = map-append (λ (l : Located). l.char) w.prefix (run class end)

    all-inline : list_all class (characters w.prefix ++ characters (run class end)) ≡ true
    all-inline = ap (list_all class) (sym joined) ∙ ap (λ t. list_all class (characters t)) (sym (dashes-inline w.prefix end dashes)) ∙ all-run class (w.prefix ++ end)

    line : is_line_comment (characters (w.prefix ++ run class end)) ≡ true
    line = ap is_line_comment joined ∙ dashes-comment (characters w.prefix) (characters (run class end)) w.is (run-first is_symbol class end w.ended) all-inline

    comment : blank (characters (w.prefix ++ run class end)) ≡ Some Blank
    comment = rw line (or-blank (is_single is_separator (characters (w.prefix ++ run class end))))

    at-most : length (run class text) ≡ length (w.prefix ++ run class end)
    at-most = ap (λ t. length (run class t)) (sym w.whole) ∙ ap length (dashes-inline w.prefix end dashes)

    most : (f r : List Located) → f ++ r ≡ text → 0 < length f → PieceIs f r → length f ≤ length (w.prefix ++ run class end)
    most f r whole some (blank_prefix is) =
        let line = is-comment (characters f) (prefix-first is_separator f r text whole some ∙ facts.separator) (prefix-first (is_char 123) f r text whole some ∙ word-brace text kind.Dashes end w) is in
        let short = run-most class f r text whole (comment-inline (characters f) line) in
        omega (arith, at-most)
    most f r whole some (word_prefix is) = let short = word-most text kind.Dashes end facts w f r whole some is in omega (arith, length-append w.prefix (run class end))
    most f r whole some (number_prefix is) = absurd (no-number f r text whole some facts.digit is)
    most f r whole some (character_prefix is) = absurd (no-character f r text whole some facts.quote is)
    most f r whole some (string_prefix is) = absurd (no-literal 34 f r text whole some facts.quotes is)

-- ---- marks, and where there is nothing

-- no word that is more than a mark
pub no-prefix-word : (text : List Located) → HasNoWord text → (k : WordKind) (r : List Located) → IsWord text k r → ⊥
no-prefix-word text none k r w = by k w.is
  where
    prefix-fails : (p : ℕ → Bool) → begins_with p (characters text) ≡ false → begins_with p (characters w.prefix) ≡ true → ⊥
    prefix-fails p fails is = true≢false (sym (subst (λ t. begins_with p (characters t) ≡ true) w.whole (first-prefix p w.prefix r is)) ∙ fails)

    symbols : IsOfKind kind.Dashes (characters w.prefix) → begins_with is_symbol (characters w.prefix) ≡ true
    symbols is = and-left (begins_with is_symbol (characters w.prefix)) (list_all is_symbol (characters w.prefix)) (dashes-run (characters w.prefix) is)

    by : (k' : WordKind) → IsOfKind k' (characters w.prefix) → ⊥
    by kind.VarId is = variable (var-form (characters w.prefix) is)
      where
        variable : has_variable_form (characters w.prefix) ≡ true → ⊥
        variable form = true≢false (sym (subst (λ t. begins_with is_ascii_lowercase (characters (skip is_underscore t)) ≡ true) w.whole (form-first w.prefix r form)) ∙ none.variable)
    by kind.ConId is = prefix-fails is_ascii_uppercase none.capital (con-capital (characters w.prefix) is)
    by kind.VarOp is = prefix-fails is_symbol none.symbol (operator-first (characters w.prefix) is.0)
    by kind.ConOp is = prefix-fails is_symbol none.symbol (operator-first (characters w.prefix) is.0)
    by (kind.Keyword k') is =
        true≢false (sym (subst (λ t. begins_with is_ascii_lowercase (characters (skip is_underscore t)) ≡ true) w.whole (form-first w.prefix r (keyword-form (characters w.prefix) k' is))) ∙ none.variable)
    by (kind.Reserved k') is = prefix-fails is_symbol none.symbol (reserved-first (characters w.prefix) k' is)
    by kind.Dashes is = prefix-fails is_symbol none.symbol (symbols is)

pub record HasNoComment (text : List Located) : Type 0 where
  pub never : OpensComment text → ⊥

nested-short : (c : ℕ) → is_nested_comment (c ∷ []) ≡ true → ⊥
unfolding is_nested_comment
nested-short c is =
    let same : c ∷ [] ≡ 123 ∷ 45 ∷ [] = (bytes_eq-Decides (c ∷ []) (codes "{-")).0 (and-left (bytes_eq (c ∷ []) (codes "{-")) (closes 1 []) is) in
    cc

nested-opens : (f r text : List Located) → f ++ r ≡ text → is_nested_comment (characters f) ≡ true → OpensComment text
unfolding is_nested_comment
nested-opens [] r text whole is = cc
nested-opens (c ∷ []) r text whole is = absurd (nested-short c.char is)
nested-opens (c ∷ d ∷ f) r text whole is =
    let test = and-left (bytes_eq (c.char ∷ d.char ∷ []) (codes "{-")) (closes 1 (characters f)) is in
    let same : c.char ∷ d.char ∷ [] ≡ 123 ∷ 45 ∷ [] = (bytes_eq-Decides (c.char ∷ d.char ∷ []) (codes "{-")).0 test in
    let first : c.char ≡ 123 = cc in
    let second : d.char ≡ 45 = cc in
    (ap first_of (sym whole) ∙ ap Some first, ap (λ t. first_of (later t)) (sym whole) ∙ ap Some second)

nested-closes : (c d : Located) (f : List Located) → is_nested_comment (characters (c ∷ d ∷ f)) ≡ true → closes 1 (characters f) ≡ true
unfolding is_nested_comment
nested-closes c d f is = and-right (bytes_eq (c.char ∷ d.char ∷ []) (codes "{-")) (closes 1 (characters f)) is

two-bytes : (c d a b : ℕ) → bytes_eq (c ∷ d ∷ []) (a ∷ b ∷ []) ≡ (c == a && d == b)
two-bytes c d a b = by (c == a) (d == b)
  where
    by : (x y : Bool) → (x && (y && true)) ≡ (x && y)
    by true true = refl
    by true false = refl
    by false y = refl

pub nested-end : (depth : ℕ) (f r : List Located) → closes depth (characters f) ≡ true → comment_end depth (f ++ r) ≡ Some r
unfolding closes
nested-end zero [] r is = refl
nested-end zero (c ∷ f) r is = absurd (true≢false (sym is))
nested-end (suc n) [] r is = absurd (true≢false (sym is))
nested-end (suc n) (c ∷ []) r is = absurd (true≢false (sym is))
nested-end (suc n) (c ∷ d ∷ f) r is =
    by (c.char == 123 && d.char == 45) (c.char == 45 && d.char == 125) (λ m h. nested-end m f r h) (λ h. nested-end (suc n) (d ∷ f) r h)
    (sym (λ j. if two-bytes c.char d.char 123 45 j then closes (suc (suc n)) (characters f) else if two-bytes c.char d.char 45 125 j then closes n (characters f) else closes (suc n) (d.char ∷ characters f)) ∙ is)
  where
    by : (a b : Bool) → ((m : ℕ) → closes m (characters f) ≡ true → comment_end m (f ++ r) ≡ Some r) → (closes (suc n) (d.char ∷ characters f) ≡ true → comment_end (suc n) (d ∷ f ++ r) ≡ Some r)
        → (if a then closes (suc (suc n)) (characters f) else if b then closes n (characters f) else closes (suc n) (d.char ∷ characters f)) ≡ true
        → (if a then comment_end (suc (suc n)) (f ++ r) else if b then comment_end n (f ++ r) else comment_end (suc n) (d ∷ f ++ r)) ≡ Some r
    by true b more go is = more (suc (suc n)) is
    by false true more go is = more n is
    by false false more go is = go is

pub record Closed (depth : ℕ) (text end : List Located) : Type 0 where
  pub prefix : List Located
  pub whole : prefix ++ end ≡ text
  pub is : closes depth (characters prefix) ≡ true

pub closed-from : (depth : ℕ) (text end : List Located) → comment_end depth text ≡ Some end → Closed depth text end
unfolding closes
closed-from zero text end is = let same : text ≡ end = cc in record { prefix = []; whole = sym same; is = refl }
closed-from (suc n) [] end is = cc
closed-from (suc n) (c ∷ []) end is = cc
closed-from (suc n) (c ∷ d ∷ text) end is =
    by (c.char == 123 && d.char == 45) (two-bytes c.char d.char 123 45) (c.char == 45 && d.char == 125) (two-bytes c.char d.char 45 125) (λ m h. closed-from m text end h) (λ h. closed-from (suc n) (d ∷ text) end h) is
  where
    by : (a : Bool) → bytes_eq (c.char ∷ d.char ∷ []) (codes "{-") ≡ a → (b : Bool) → bytes_eq (c.char ∷ d.char ∷ []) (codes "-}") ≡ b
        → ((m : ℕ) → comment_end m text ≡ Some end → Closed m text end) → (comment_end (suc n) (d ∷ text) ≡ Some end → Closed (suc n) (d ∷ text) end)
        → (if a then comment_end (suc (suc n)) text else if b then comment_end n text else comment_end (suc n) (d ∷ text)) ≡ Some end → Closed (suc n) (c ∷ d ∷ text) end
    by true ha b hb more go is =
        let inner = more (suc (suc n)) is in
        record { prefix = c ∷ d ∷ inner.prefix; whole = ap (λ t. c ∷ d ∷ t) inner.whole; is = rw ha inner.is }
    by false ha true hb more go is =
        let inner = more n is in
        record { prefix = c ∷ d ∷ inner.prefix; whole = ap (λ t. c ∷ d ∷ t) inner.whole; is = rw (ha, hb) inner.is }
    by false ha false hb more go is = on (go is)
      where
        on : Closed (suc n) (d ∷ text) end → Closed (suc n) (c ∷ d ∷ text) end
        on inner = step inner.prefix inner.whole inner.is
          where
            step : (prefix : List Located) → prefix ++ end ≡ d ∷ text → closes (suc n) (characters prefix) ≡ true → Closed (suc n) (c ∷ d ∷ text) end
            step [] whole is = absurd (true≢false (sym is))
            step (e ∷ prefix) whole is =
                let head : e.char ≡ d.char = ap (λ (l : Located). l.char) (let h : e ≡ d = cc in h) in
                let tails : prefix ++ end ≡ text = cc in
                let is' : closes (suc n) (d.char ∷ characters prefix) ≡ true = subst (λ x. closes (suc n) (x ∷ characters prefix) ≡ true) head is in
                record { prefix = c ∷ d ∷ prefix; whole = ap (λ t. c ∷ d ∷ t) tails; is = rw (ha, hb) is' }

-- what a blank is where neither a separator nor a symbol begins
blank-nested : (f r text : List Located) → f ++ r ≡ text → 0 < length f → begins_with is_separator (characters text) ≡ false → begins_with is_dash (characters text) ≡ false → IsSome (blank (characters f)) → is_nested_comment (characters f) ≡ true
blank-nested f r text whole some separator dash is = by (is_single is_separator (characters f)) refl (is_line_comment (characters f)) refl (is_nested_comment (characters f)) refl is
  where
    by : (a : Bool) → is_single is_separator (characters f) ≡ a → (b : Bool) → is_line_comment (characters f) ≡ b → (c : Bool) → is_nested_comment (characters f) ≡ c → IsSome (if a || (b || c) then Some Blank else None) → c ≡ true
    by true ha b hb c hc is = absurd (true≢false (sym ha ∙ single-first (characters f) (prefix-first is_separator f r text whole some ∙ separator)))
    by false ha true hb c hc is = absurd (true≢false (sym (comment-first (characters f) hb) ∙ prefix-first is_dash f r text whole some ∙ dash))
    by false ha false hb true hc is = refl
    by false ha false hb false hc is = absurd (true≢false (sym is))

no-dash : (w : List ℕ) → begins_with is_symbol w ≡ false → begins_with is_dash w ≡ false
no-dash [] fails = refl
no-dash (c ∷ w) fails = by (is_dash c) refl
  where
    by : (b : Bool) → is_dash c ≡ b → b ≡ false
    by false h = refl
    by true h = absurd (true≢false (sym (dash-symbol c h) ∙ fails))

-- one mark before the rest
one-prefix : (f r : List Located) (c : Located) (text : List Located) → f ++ r ≡ c ∷ text → 0 < length f → length f ≤ 1 → (f ≡ c ∷ []) × (r ≡ text)
one-prefix [] r c text whole some one = absurd (omega arith)
one-prefix (d ∷ []) r c text whole some one =
    let heads : d ≡ c = cc in
    let tails : r ≡ text = cc in
    ((λ j. heads j ∷ []), tails)
one-prefix (d ∷ e ∷ f) r c text whole some one = absurd (omega arith)

-- an entry of a table and its word
entry-pair : {X : Type 0} (p : List ℕ → X → Bool) (table : List (List ℕ × X)) → list_all (λ e. p e.0 e.1) table ≡ true → (w : List ℕ) (x : X) → entry table w ≡ Some x → p w x ≡ true
entry-pair p [] all w x is = cc
entry-pair p (e ∷ table) all w x is = by (bytes_eq w e.0) refl (λ h. entry-pair p table (and-right (p e.0 e.1) (list_all (λ y. p y.0 y.1) table) all) w x h) is
  where
    by : (b : Bool) → bytes_eq w e.0 ≡ b → (entry table w ≡ Some x → p w x ≡ true) → (if b then Some e.1 else entry table w) ≡ Some x → p w x ≡ true
    by true h more is =
        let same : e.1 ≡ x = cc in
        let word : w ≡ e.0 = (bytes_eq-Decides w e.0).0 h in
        (λ j. p (word j) (sym same j)) ∙ and-left (p e.0 e.1) (list_all (λ y. p y.0 y.1) table) all
    by false h more is = more is

-- braces are for the marks of braces
fits_brace : List ℕ → mark.Mark → Bool
fits_brace w marks_are.OpenBrace = begins_with (is_char 123) w
fits_brace w marks_are.OpenParen = not (begins_with (is_char 123) w)
fits_brace w marks_are.CloseParen = not (begins_with (is_char 123) w)
fits_brace w marks_are.OpenSquare = not (begins_with (is_char 123) w)
fits_brace w marks_are.CloseSquare = not (begins_with (is_char 123) w)
fits_brace w marks_are.CloseBrace = not (begins_with (is_char 123) w)
fits_brace w marks_are.Comma = not (begins_with (is_char 123) w)
fits_brace w marks_are.Semicolon = not (begins_with (is_char 123) w)
fits_brace w marks_are.Backquote = not (begins_with (is_char 123) w)
fits_brace w marks_are.Underscore = not (begins_with (is_char 123) w)

mark-fits : (w : List ℕ) (m : mark.Mark) → mark_of w ≡ Some m → fits_brace w m ≡ true
unfolding mark_of fits_brace
mark-fits w m at = entry-pair fits_brace marks refl w m at

brace-of : (c : ℕ) → mark_of (c ∷ []) ≡ Some marks_are.OpenBrace → c ≡ 123
unfolding fits_brace
brace-of c at = eqb-true c 123 (mark-fits (c ∷ []) marks_are.OpenBrace at)

no-brace : (m : mark.Mark) (c : ℕ) → c ≡ 123 → fits_brace (c ∷ []) m ≡ true → m ≡ marks_are.OpenBrace
unfolding fits_brace
no-brace marks_are.OpenBrace c at is = refl
no-brace marks_are.OpenParen c at is = absurd (true≢false (sym is ∙ ap (λ x. not (x == 123)) at))
no-brace marks_are.CloseParen c at is = absurd (true≢false (sym is ∙ ap (λ x. not (x == 123)) at))
no-brace marks_are.OpenSquare c at is = absurd (true≢false (sym is ∙ ap (λ x. not (x == 123)) at))
no-brace marks_are.CloseSquare c at is = absurd (true≢false (sym is ∙ ap (λ x. not (x == 123)) at))
no-brace marks_are.CloseBrace c at is = absurd (true≢false (sym is ∙ ap (λ x. not (x == 123)) at))
no-brace marks_are.Comma c at is = absurd (true≢false (sym is ∙ ap (λ x. not (x == 123)) at))
no-brace marks_are.Semicolon c at is = absurd (true≢false (sym is ∙ ap (λ x. not (x == 123)) at))
no-brace marks_are.Backquote c at is = absurd (true≢false (sym is ∙ ap (λ x. not (x == 123)) at))
no-brace marks_are.Underscore c at is = absurd (true≢false (sym is ∙ ap (λ x. not (x == 123)) at))

-- the mark of a brace doesn't stand before a dash
mark-opens : (c d : Located) (text : List Located) (m : mark.Mark) → OpensComment (c ∷ d ∷ text) → mark_of (c.char ∷ []) ≡ Some m → stands_before (Mark m) (characters (d ∷ text)) ≡ true → ⊥
mark-opens c d text m opens at fits =
    let first : c.char ≡ 123 = (let h = opens.0 in cc) in
    let second : d.char ≡ 45 = (let h = opens.1 in cc) in
    let brace = no-brace m c.char first (mark-fits (c.char ∷ []) m at) in
    let before : not (is_dash d.char) ≡ true = subst (λ k. stands_before (Mark k) (characters (d ∷ text)) ≡ true) brace fits in
    true≢false (sym before ∙ ap (λ x. not (is_dash x)) second)

mark-stands : (c : Located) (text : List Located) (m : mark.Mark) → HasNoComment (c ∷ text) → mark_of (c.char ∷ []) ≡ Some m → stands_before (Mark m) (characters text) ≡ true
unfolding mark_of
mark-stands c text marks_are.OpenBrace none at = by text none
  where
    brace : c.char ≡ 123
    brace = brace-of c.char at

    by : (text : List Located) → HasNoComment (c ∷ text) → not (begins_with is_dash (characters text)) ≡ true
    by [] none = refl
    by (d ∷ text) none = dash (is_dash d.char) refl
      where
        dash : (b : Bool) → is_dash d.char ≡ b → not b ≡ true
        dash false h = refl
        dash true h = absurd (none.never (ap Some brace, ap Some (eqb-true d.char 45 h)))
mark-stands c text marks_are.OpenParen none at = refl
mark-stands c text marks_are.CloseParen none at = refl
mark-stands c text marks_are.OpenSquare none at = refl
mark-stands c text marks_are.CloseSquare none at = refl
mark-stands c text marks_are.CloseBrace none at = refl
mark-stands c text marks_are.Comma none at = refl
mark-stands c text marks_are.Semicolon none at = refl
mark-stands c text marks_are.Backquote none at = refl
mark-stands c text marks_are.Underscore none at = refl

-- ---- the pieces at marks and comments

keyword-never : (text : List Located) → HasNoWord text → (f r : List Located) → f ++ r ≡ text → keyword_of (characters f) ≡ None
keyword-never text none f r whole = by (keyword_of (characters f)) refl
  where
    by : (o : Option keywords_are.Keyword) → keyword_of (characters f) ≡ o → o ≡ None
    by None is = refl
    by (Some k) is = absurd (true≢false (sym (subst (λ t. begins_with is_ascii_lowercase (characters (skip is_underscore t)) ≡ true) whole (form-first f r (keyword-form (characters f) k is))) ∙ none.variable))

-- prefixes where no word begins
mark-from : (text f r : List Located) → IsPlain text → HasNoWord text → PrefixIs text f r → (m : mark.Mark) × (mark_of (characters f) ≡ Some m) × (stands_before (Mark m) (characters r) ≡ true)
mark-from text f r facts none (plain k w other) = absurd (no-prefix-word text none k r w)
mark-from text f r facts none (marked m at fits) = (m, at, fits)
mark-from text f r facts none (chained capital reaches) = absurd (true≢false (sym capital ∙ facts.capital))

-- a piece before a text where no word but a mark begins
only-mark : (text f r : List Located) → IsPlain text → HasNoWord text → HasNoComment text → f ++ r ≡ text → 0 < length f → PieceIs f r → (m : mark.Mark) × (mark_of (characters f) ≡ Some m)
only-mark text f r facts none never whole some (blank_prefix is) =
    absurd (never.never (nested-opens f r text whole (blank-nested f r text whole some facts.separator (no-dash (characters text) none.symbol) is)))
only-mark text f r facts none never whole some (word_prefix is) = let m = mark-from text f r facts none (prefix-cases text f r whole is) in (m.0, m.1)
only-mark text f r facts none never whole some (number_prefix is) = absurd (no-number f r text whole some facts.digit is)
only-mark text f r facts none never whole some (character_prefix is) = absurd (no-character f r text whole some facts.quote is)
only-mark text f r facts none never whole some (string_prefix is) = absurd (no-literal 34 f r text whole some facts.quotes is)

mark-kind : (c : Located) (text : List Located) (m : mark.Mark) → HasNoWord (c ∷ text) → mark_of (c.char ∷ []) ≡ Some m → word_kind (c.char ∷ []) ≡ Some (Mark m)
unfolding word_kind
mark-kind c text m none at = rw (keyword-never (c ∷ text) none (c ∷ []) text refl, reserved-symbol (c.char ∷ []) none.symbol, at) refl

mark-blank : (c : Located) (text : List Located) → IsPlain (c ∷ text) → HasNoWord (c ∷ text) → blank (c.char ∷ []) ≡ None
mark-blank c text facts none = by (blank (c.char ∷ [])) refl
  where
    by : (o : Option Piece) → blank (c.char ∷ []) ≡ o → o ≡ None
    by None is = refl
    by (Some p) is = absurd (nested-short c.char (blank-nested (c ∷ []) text (c ∷ text) refl (omega arith) facts.separator (no-dash (characters (c ∷ text)) none.symbol) (ap is_some is)))

pub mark-longest : (c : Located) (text : List Located) (m : mark.Mark) → IsPlain (c ∷ text) → HasNoWord (c ∷ text) → HasNoComment (c ∷ text) → mark_of (c.char ∷ []) ≡ Some m
    → longest piece (c ∷ text) ≡ Some (cut_at (c ∷ []) text (Token (Mark m)))
mark-longest c text m facts none never at =
    piece-longest (c ∷ text) (c ∷ []) text (Token (Mark m)) refl (omega arith)
    (word-piece (c ∷ []) text (Mark m) (mark-blank c text facts none) (mark-kind c text m none at) (mark-stands c text m never at))
    (λ f r whole some is. let m' = only-mark (c ∷ text) f r facts none never whole some is in mark-size f m'.0 m'.1)

pub nothing-longest : (c : Located) (text : List Located) → IsPlain (c ∷ text) → HasNoWord (c ∷ text) → HasNoComment (c ∷ text) → mark_of (c.char ∷ []) ≡ None → longest piece (c ∷ text) ≡ None
nothing-longest c text facts none never at = piece-none (c ∷ text) bad
  where
    bad : (f r : List Located) → f ++ r ≡ c ∷ text → 0 < length f → PieceIs f r → ⊥
    bad f r whole some is =
        let m = only-mark (c ∷ text) f r facts none never whole some is in
        let one = one-prefix f r c text whole some (mark-size f m.0 m.1) in
        none-is (mark_of (c.char ∷ [])) m.0 (ap is_none at) (ap (λ t. mark_of (characters t)) (sym one.0) ∙ m.1)

-- nested comments
brace-facts : (w : List ℕ) → begins_with (is_char 123) w ≡ true → (begins_with is_name_character w ≡ false) × (begins_with is_symbol w ≡ false) × (begins_with is_dash w ≡ false)
unfolding is_name_character is_symbol
brace-facts w is =
    (begins-apart (is_char 123) is_name_character small-brace refl w is, begins-apart (is_char 123) is_symbol small-brace refl w is, begins-apart (is_char 123) is_dash small-brace refl w is)
  where
    small-brace : (c : ℕ) → is_char 123 c ≡ true → c < 128
    small-brace c h = let at = eqb-true c 123 h in omega arith

-- a prefix of a text that opens a comment is such a comment
only-nested : (c d : Located) (text f r : List Located) → IsPlain (c ∷ d ∷ text) → OpensComment (c ∷ d ∷ text) → f ++ r ≡ c ∷ d ∷ text → 0 < length f → PieceIs f r → is_nested_comment (characters f) ≡ true
only-nested c d text f r facts opens whole some is = by is
  where
    brace : begins_with (is_char 123) (characters (c ∷ d ∷ text)) ≡ true
    brace = let at : c.char ≡ 123 = (let h = opens.0 in cc) in eq-eqb c.char 123 at

    from : PrefixIs (c ∷ d ∷ text) f r → ⊥
    from (plain k w other) = word-class (c ∷ d ∷ text) k r (brace-facts (characters (c ∷ d ∷ text)) brace).0 (brace-facts (characters (c ∷ d ∷ text)) brace).1 w
    from (marked m at fits) =
        let one = one-prefix f r c (d ∷ text) whole some (mark-size f m at) in
        mark-opens c d text m opens (ap (λ t. mark_of (characters t)) (sym one.0) ∙ at) (ap (λ t. stands_before (Mark m) (characters t)) (sym one.1) ∙ fits)
    from (chained capital reaches) = true≢false (sym capital ∙ facts.capital)

    by : PieceIs f r → is_nested_comment (characters f) ≡ true
    by (blank_prefix h) = blank-nested f r (c ∷ d ∷ text) whole some facts.separator (brace-facts (characters (c ∷ d ∷ text)) brace).2 h
    by (word_prefix h) = absurd (from (prefix-cases (c ∷ d ∷ text) f r whole h))
    by (number_prefix h) = absurd (no-number f r (c ∷ d ∷ text) whole some facts.digit h)
    by (character_prefix h) = absurd (no-character f r (c ∷ d ∷ text) whole some facts.quote h)
    by (string_prefix h) = absurd (no-literal 34 f r (c ∷ d ∷ text) whole some facts.quotes h)

blank-of : (a b : Bool) (w : List ℕ) → is_nested_comment w ≡ true → (if a || (b || is_nested_comment w) then Some Blank else None) ≡ Some Blank
blank-of true b w is = refl
blank-of false true w is = refl
blank-of false false w is = rw is refl

nested-of : (c d : Located) (f : List Located) → OpensComment (c ∷ d ∷ f) → closes 1 (characters f) ≡ true → is_nested_comment (characters (c ∷ d ∷ f)) ≡ true
unfolding is_nested_comment
nested-of c d f opens is =
    let first : c.char ≡ 123 = (let h = opens.0 in cc) in
    let second : d.char ≡ 45 = (let h = opens.1 in cc) in
    rw (first, second) is

-- where a comment ends
ends-at : (c d : Located) (text f r : List Located) → f ++ r ≡ c ∷ d ∷ text → is_nested_comment (characters f) ≡ true → comment_end 1 text ≡ Some r
unfolding is_nested_comment
ends-at c d text [] r whole is = cc
ends-at c d text (a ∷ []) r whole is = absurd (nested-short a.char is)
ends-at c d text (a ∷ b ∷ f) r whole is =
    let tails : f ++ r ≡ text = cc in
    ap (comment_end 1) (sym tails) ∙ nested-end 1 f r (nested-closes a b f is)

pub comment-longest : (c d : Located) (text end : List Located) → IsPlain (c ∷ d ∷ text) → OpensComment (c ∷ d ∷ text) → comment_end 1 text ≡ Some end
    → (prefix : List Located) × (longest piece (c ∷ d ∷ text) ≡ Some (cut_at prefix end Blank))
comment-longest c d text end facts opens is =
    let closed = closed-from 1 text end is in (
      c ∷ d ∷ closed.prefix,
      piece-longest (c ∷ d ∷ text) (c ∷ d ∷ closed.prefix) end Blank (ap (λ t. c ∷ d ∷ t) closed.whole) (omega arith)
          (blank-piece (c ∷ d ∷ closed.prefix) end (blank-of (is_single is_separator (characters (c ∷ d ∷ closed.prefix))) (is_line_comment (characters (c ∷ d ∷ closed.prefix))) (characters (c ∷ d ∷ closed.prefix)) (nested-of c d closed.prefix (opens.0, opens.1) closed.is)))
          (λ f r whole some p.
          let at = ends-at c d text f r whole (only-nested c d text f r facts opens whole some p) in
          let same : end ≡ r = (let e : Some end ≡ Some r = sym is ∙ at in cc) in
          shorter-prefix f r (c ∷ d ∷ closed.prefix) end (c ∷ d ∷ text) whole (ap (λ t. c ∷ d ∷ t) closed.whole) (let sizes = ap length same in omega arith)),
    )

pub comment-never : (c d : Located) (text : List Located) → IsPlain (c ∷ d ∷ text) → OpensComment (c ∷ d ∷ text) → comment_end 1 text ≡ None → longest piece (c ∷ d ∷ text) ≡ None
comment-never c d text facts opens is =
    piece-none (c ∷ d ∷ text) (λ f r whole some p. none-is (comment_end 1 text) r (ap is_none is) (ends-at c d text f r whole (only-nested c d text f r facts opens whole some p)))
