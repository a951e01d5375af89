-- Words, comments and blanks are the longest pieces.
use Rattle.std.proofs.Common.{◌≡◌, ℕ, suc, ◌+◌, ◌<◌, ◌≤◌, ◌⊎◌, inl, inr, ⊎_elim, Bool, true, false, ◌&&◌, ◌||◌, ◌==◌, not, List, [], ◌∷◌, ◌++◌, length, drop, Option, Some, None, is_some, IsSome, if◌then◌else◌, refl, sym, ap, subst, ◌∙◌, arith, true≢false, nat_le}
use Rattle.std.proofs.lemmas.Bool.{cases_lt}
use Rattle.std.proofs.lemmas.List.{map-append}
use Rattle.std.specs.Char.{is_ascii_digit}
use Rattle.std.specs.List.{list_all, list_any, prefix_len}
use Rattle.std.specs.Option.{option_map, option_and_then}
use Rattle.cu_lex.specs.declared.word.WordKind.{WordKind}
use Rattle.cu_lex.specs.declared.word.WordKind.TheVariants as kind
use Rattle.cu_lex.specs.Kind.{Kind}
use Rattle.cu_lex.specs.Literals.{items_between}
use Rattle.cu_lex.specs.Inside.Lexing.{named, IsPlain}
use Rattle.cu_lex.specs.Located.{Located, characters}
use Rattle.cu_lex.specs.Munch.{cut_at, longest}
use Rattle.cu_lex.specs.Pieces.{piece, blank, word, number, start, word_kind, one_character, stands_before}
use Rattle.cu_lex.specs.Pieces.Piece.{Blank, Token}
use Rattle.cu_lex.specs.Inside.Scanning.{class_of, IsWord, IsOfKind}
use Rattle.cu_lex.specs.Words.{begins_with, is_single, is_separator, is_name_character, is_symbol, is_dash, is_dashes, mark_of, marks, is_line_comment, is_nested_comment}
use Rattle.cu_lex.proofs.AsciiLemmas.{and-left, and-right, and-both, apart, all_below, small-symbol, small-name}
use Rattle.cu_lex.proofs.ChainLemmas.{entry-none, operator-dashes, first-prefix, same-end, word-first, name-symbol, class-cases, classes-differ}
use Rattle.cu_lex.proofs.FirstLemmas.{is_char, is_dashes_kind, stands-named, number-none, literal-none, word-is}
use Rattle.cu_lex.proofs.ItemLemmas.{not-some}
use Rattle.cu_lex.proofs.PieceLemmas.{PrefixIs, prefix-cases, PieceIs, piece-longest, prefix-first, shorter-prefix, dash-symbol, reserved-dashes}
use Rattle.cu_lex.proofs.PieceLemmas.PieceIs.{blank_prefix, word_prefix, number_prefix, character_prefix, string_prefix}
use Rattle.cu_lex.proofs.PieceLemmas.PrefixIs.{plain, marked, chained}

pub begins-apart : (p q : ℕ → Bool) → ((c : ℕ) → p c ≡ true → c < 128) → all_below 128 (λ c. not (p c && q c)) ≡ true → (w : List ℕ) → begins_with p w ≡ true → begins_with q w ≡ false
begins-apart p q small all [] is = refl
begins-apart p q small all (c ∷ w) is = apart p q all c (small c is) is

map-not-some : {X Y : Type 0} (g : X → Y) (o : Option X) → o ≡ None → IsSome (option_map g o) → ⊥
map-not-some g o none some = true≢false (sym some ∙ ap (λ x. is_some (option_map g x)) none)

pub no-number : (f r text : List Located) → f ++ r ≡ text → 0 < length f → begins_with is_ascii_digit (characters text) ≡ false → IsSome (number (start f) (characters f) (characters r)) → ⊥
no-number f r text whole some digit is = map-not-some _ _ (number-none (characters f) (characters r) (prefix-first is_ascii_digit f r text whole some ∙ digit)) is

pub no-literal : (quote : ℕ) (f r text : List Located) → f ++ r ≡ text → 0 < length f → begins_with (is_char quote) (characters text) ≡ false → IsSome (items_between quote f) → ⊥
no-literal quote f r text whole some fails is = not-some (items_between quote f) (literal-none quote f (prefix-first (is_char quote) f r text whole some ∙ fails)) is

pub no-character : (f r text : List Located) → f ++ r ≡ text → 0 < length f → begins_with (is_char 39) (characters text) ≡ false → IsSome (option_and_then one_character (items_between 39 f)) → ⊥
no-character f r text whole some fails is =
    true≢false (sym is ∙ ap (λ o. is_some (option_and_then one_character o)) (literal-none 39 f (prefix-first (is_char 39) f r text whole some ∙ fails)))

-- marks are single characters
one_char : List ℕ → Bool
one_char [] = false
one_char (c ∷ []) = true
one_char (c ∷ d ∷ w) = false

pub mark-size : (f : List Located) (m : _) → mark_of (characters f) ≡ Some m → length f ≤ 1
unfolding mark_of one_char
mark-size [] m is = omega arith
mark-size (c ∷ []) m is = omega arith
mark-size (c ∷ d ∷ f) m is = let none = entry-none one_char marks refl (c.char ∷ d.char ∷ characters f) refl in absurd (let impossible : ⊥ = cc in impossible)

-- ---- comments to the end of the line

prefix-none : (x : List ℕ) → begins_with is_symbol x ≡ false → prefix_len is_dash x ≡ 0
prefix-none [] fails = refl
prefix-none (c ∷ x) fails = by (is_dash c) refl
  where
    by : (b : Bool) → is_dash c ≡ b → (if b then 1 + prefix_len is_dash x else 0) ≡ 0
    by true h = absurd (true≢false (sym (dash-symbol c h) ∙ fails))
    by false h = refl

record AreDashes (v x : List ℕ) : Type 0 where
  all : list_all is_dash v ≡ true
  size : prefix_len is_dash (v ++ x) ≡ length v

are-dashes : (v x : List ℕ) → list_all is_symbol v ≡ true → begins_with is_symbol x ≡ false → begins_with is_symbol (drop (prefix_len is_dash (v ++ x)) (v ++ x)) ≡ false → AreDashes v x
are-dashes [] x all fails ended = record { all = refl; size = prefix-none x fails }
are-dashes (c ∷ v) x all fails ended =
    by (is_dash c) refl (λ h. are-dashes v x (and-right (is_symbol c) (list_all is_symbol v) all) fails h) ended
  where
    by : (b : Bool) → is_dash c ≡ b → (begins_with is_symbol (drop (prefix_len is_dash (v ++ x)) (v ++ x)) ≡ false → AreDashes v x)
        → begins_with is_symbol (drop (if b then 1 + prefix_len is_dash (v ++ x) else 0) (c ∷ v ++ x)) ≡ false → AreDashes (c ∷ v) x
    by true h more ended =
        let step : 1 + prefix_len is_dash (v ++ x) ≡ suc (prefix_len is_dash (v ++ x)) = omega arith in
        let rest = more (subst (λ n. begins_with is_symbol (drop n (c ∷ v ++ x)) ≡ false) step ended) in
        record {
          all = rw (h, rest.all) refl;
          size = ap (λ b. if b then 1 + prefix_len is_dash (v ++ x) else 0) h ∙ (let s = rest.size in omega arith);
        }
    by false h more ended = absurd (true≢false (sym (and-left (is_symbol c) (list_all is_symbol v) all) ∙ ended))

not-true-false : (b : Bool) → not b ≡ true → b ≡ false
not-true-false true is = sym is
not-true-false false is = refl

pub comment-dashes : (v x : List ℕ) → list_all is_symbol v ≡ true → begins_with is_symbol x ≡ false → is_line_comment (v ++ x) ≡ true → is_dashes v ≡ true
unfolding is_line_comment
comment-dashes v x all fails is =
    let w = v ++ x in
    let d = prefix_len is_dash (v ++ x) in
    let many = and-left (nat_le 2 d) (not (begins_with is_symbol (drop d (v ++ x))) && not (list_any (λ c. c == 10) (v ++ x))) is in
    let others = and-right (nat_le 2 d) (not (begins_with is_symbol (drop d (v ++ x))) && not (list_any (λ c. c == 10) (v ++ x))) is in
    let ended = not-true-false (begins_with is_symbol (drop d (v ++ x))) (and-left (not (begins_with is_symbol (drop d (v ++ x)))) (not (list_any (λ c. c == 10) (v ++ x))) others) in
    let dashes = are-dashes v x all fails ended in
    and-both (nat_le 2 (length v)) (list_all is_dash v) (ap (nat_le 2) (sym dashes.size) ∙ many) dashes.all

pub comment-first : (w : List ℕ) → is_line_comment w ≡ true → begins_with is_dash w ≡ true
unfolding is_line_comment
comment-first [] is = is
comment-first (c ∷ w) is = by (is_dash c) refl is
  where
    by : (b : Bool) → is_dash c ≡ b
        → nat_le 2 (if b then 1 + prefix_len is_dash w else 0) && (not (begins_with is_symbol (drop (if b then 1 + prefix_len is_dash w else 0) (c ∷ w))) && not (list_any (λ c. c == 10) (c ∷ w))) ≡ true → b ≡ true
    by true h is = refl
    by false h is = is

-- a longer prefix goes on into what follows the shorter
pub record GoesOn (prefix rest f r : List Located) : Type 0 where
  pub more : List Located
  pub whole : f ≡ prefix ++ more
  pub after : rest ≡ more ++ r

pub goes-on : (prefix rest f r : List Located) → prefix ++ rest ≡ f ++ r → length prefix ≤ length f → GoesOn prefix rest f r
goes-on [] rest f r whole fits = record { more = f; whole = refl; after = whole }
goes-on (c ∷ prefix) rest [] r whole fits = absurd (omega arith)
goes-on (c ∷ prefix) rest (d ∷ f) r whole fits =
    let heads : d ≡ c = cc in
    let tails : prefix ++ rest ≡ f ++ r = cc in
    let g = goes-on prefix rest f r tails (omega arith) in
    record { more = g.more; whole = (λ j. heads j ∷ g.whole j); after = g.after }

no-dashes : (k : WordKind) (w : List ℕ) → IsOfKind k w → is_dashes_kind k ≡ false → class_of k ≡ is_symbol → is_dashes w ≡ false
no-dashes k w is other class = by k is other class
  where
    of-not : (b : Bool) → not b ≡ true → b ≡ false
    of-not true h = sym h
    of-not false h = refl

    by : (k : WordKind) → IsOfKind k w → is_dashes_kind k ≡ false → class_of k ≡ is_symbol → is_dashes w ≡ false
    by kind.VarId is other class = absurd (classes-differ class)
    by kind.ConId is other class = absurd (classes-differ class)
    by kind.VarOp is other class = of-not (is_dashes w) (operator-dashes w is.0)
    by kind.ConOp is other class = of-not (is_dashes w) (operator-dashes w is.0)
    by (kind.Keyword k) is other class = absurd (classes-differ class)
    by (kind.Reserved k) is other class = reserved-dashes w k is
    by kind.Dashes is other class = absurd (true≢false other)

first-more : (p : ℕ → Bool) (more r : List Located) → begins_with p (characters (more ++ r)) ≡ false → begins_with p (characters more) ≡ false
first-more p [] r fails = refl
first-more p (c ∷ more) r fails = fails

-- a comment is no longer than a word that isn't dashes
pub comment-shorter : (text f r : List Located) (k : WordKind) (end : List Located) → f ++ r ≡ text → 0 < length f → (w : IsWord text k end) → is_dashes_kind k ≡ false → is_line_comment (characters f) ≡ true → length f < length w.prefix
comment-shorter text f r k end whole some w other is = ⊎_elim (λ lt. lt) (λ ge. absurd (longer ge (class-cases k))) (cases_lt (length f) (length w.prefix))
  where
    dash : begins_with is_symbol (characters text) ≡ true
    dash = subst (λ t. begins_with is_symbol (characters t) ≡ true) whole (first-prefix is_symbol f r (first (characters f) (comment-first (characters f) is)))
      where
        first : (v : List ℕ) → begins_with is_dash v ≡ true → begins_with is_symbol v ≡ true
        first [] h = h
        first (c ∷ v) h = dash-symbol c h

    longer : length w.prefix ≤ length f → (class_of k ≡ is_name_character) ⊎ (class_of k ≡ is_symbol) → ⊥
    longer fits (inl name) = name-symbol text (subst (λ p. begins_with p (characters text) ≡ true) name (word-first text k end w)) dash
    longer fits (inr symbol) =
        let g = goes-on w.prefix end f r (w.whole ∙ sym whole) fits in
        let fails = first-more is_symbol g.more r (ap (λ t. begins_with is_symbol (characters t)) (sym g.after) ∙ subst (λ p. begins_with p (characters end) ≡ false) symbol w.ended) in
        let parts : characters f ≡ characters w.prefix ++ characters g.more = ap characters g.whole ∙ map-append (λ (l : Located). l.char) w.prefix g.more in
        let dashes = comment-dashes (characters w.prefix) (characters g.more) (subst (λ p. list_all p (characters w.prefix) ≡ true) symbol w.all) fails (ap is_line_comment (sym parts) ∙ is) in
        true≢false (sym dashes ∙ no-dashes k (characters w.prefix) w.is other symbol)

-- ---- words

brace-name : (w : List ℕ) → begins_with is_name_character w ≡ true → begins_with (is_char 123) w ≡ false
unfolding is_name_character
brace-name w is = begins-apart is_name_character (is_char 123) small-name refl w is

brace-symbol : (w : List ℕ) → begins_with is_symbol w ≡ true → begins_with (is_char 123) w ≡ false
unfolding is_symbol
brace-symbol w is = begins-apart is_symbol (is_char 123) small-symbol refl w is

pub word-brace : (text : List Located) (k : WordKind) (end : List Located) → IsWord text k end → begins_with (is_char 123) (characters text) ≡ false
word-brace text k end w = by (class-cases k)
  where
    by : (class_of k ≡ is_name_character) ⊎ (class_of k ≡ is_symbol) → begins_with (is_char 123) (characters text) ≡ false
    by (inl name) = brace-name (characters text) (subst (λ p. begins_with p (characters text) ≡ true) name (word-first text k end w))
    by (inr symbol) = brace-symbol (characters text) (subst (λ p. begins_with p (characters text) ≡ true) symbol (word-first text k end w))

pub nested-first : (w : List ℕ) → begins_with (is_char 123) w ≡ false → is_nested_comment w ≡ false
unfolding is_nested_comment
nested-first [] fails = refl
nested-first (c ∷ []) fails = rw fails refl
nested-first (c ∷ d ∷ w) fails = rw fails refl

pub single-first : (w : List ℕ) → begins_with is_separator w ≡ false → is_single is_separator w ≡ false
single-first w fails = rw fails refl

-- a blank that neither a separator nor a brace begins is a comment to the end of the line
pub blank-comment : (w : List ℕ) → begins_with is_separator w ≡ false → begins_with (is_char 123) w ≡ false → blank w ≡ (if is_line_comment w then Some Blank else None)
blank-comment w separator brace = rw (single-first w separator, nested-first w brace) (by (is_line_comment w))
  where
    by : (b : Bool) → (if b || false then Some Blank else None) ≡ (if b then Some Blank else None)
    by true = refl
    by false = refl

pub is-comment : (w : List ℕ) → begins_with is_separator w ≡ false → begins_with (is_char 123) w ≡ false → IsSome (blank w) → is_line_comment w ≡ true
is-comment w separator brace some = by (is_line_comment w) refl (subst IsSome (blank-comment w separator brace) some)
  where
    by : (b : Bool) → is_line_comment w ≡ b → IsSome (if b then Some Blank else None) → b ≡ true
    by true h is = refl
    by false h is = absurd (true≢false (sym is))

pub word-some : (text : List Located) (k : WordKind) (end : List Located) (w : IsWord text k end) → 0 < length w.prefix
word-some text k end w = by w.prefix w.some
  where
    by : (prefix : List Located) → begins_with (class_of k) (characters prefix) ≡ true → 0 < length prefix
    by [] is = absurd (true≢false (sym is))
    by (c ∷ prefix) is = omega arith

-- the prefixes of a text that a word begins
pub word-most : (text : List Located) (k : WordKind) (end : List Located) → IsPlain text → (w : IsWord text k end) → (f r : List Located) → f ++ r ≡ text → 0 < length f → IsSome (word (characters f) (characters r)) → length f ≤ length w.prefix
word-most text k end facts w f r whole some is = by (prefix-cases text f r whole is)
  where
    by : PrefixIs text f r → length f ≤ length w.prefix
    by (plain k' w' other) = shorter-prefix f r w.prefix end text whole w.whole (let same = ap length (same-end text k k' end r w w') in omega arith)
    by (marked m at ok) = let a = mark-size f m at in let b = word-some text k end w in omega arith
    by (chained capital reaches) = absurd (true≢false (sym capital ∙ facts.capital))

pub word-piece : (f r : List Located) (what : Kind) → blank (characters f) ≡ None → word_kind (characters f) ≡ Some what → stands_before what (characters r) ≡ true → piece f r ≡ Some (Token what)
unfolding piece
word-piece f r what no_blank is ok = rw (no_blank, is, ok) refl

pub word-longest : (text : List Located) (k : WordKind) (end : List Located) → IsPlain text → (w : IsWord text k end) → is_dashes_kind k ≡ false
    → longest piece text ≡ Some (cut_at w.prefix end (Token (named None k (characters w.prefix))))
word-longest text k end facts w other =
    piece-longest text w.prefix end (Token (named None k (characters w.prefix))) w.whole (word-some text k end w)
    (word-piece w.prefix end (named None k (characters w.prefix)) no-blank (word-is (characters w.prefix) k w.is other)
    (stands-named None k (characters w.prefix) (characters end) other ∙ ap not w.ended))
    most
  where
    prefix-is : (p : ℕ → Bool) → begins_with p (characters text) ≡ false → begins_with p (characters w.prefix) ≡ false
    prefix-is p fails = prefix-first p w.prefix end text w.whole (word-some text k end w) ∙ fails

    comment-none : (b : Bool) → is_line_comment (characters w.prefix) ≡ b → (if b then Some Blank else None) ≡ None
    comment-none false h = refl
    comment-none true h = absurd (let lt = comment-shorter text w.prefix end k end w.whole (word-some text k end w) w other h in omega arith)

    no-blank : blank (characters w.prefix) ≡ None
    no-blank = blank-comment (characters w.prefix) (prefix-is is_separator facts.separator) (prefix-is (is_char 123) (word-brace text k end w)) ∙ comment-none (is_line_comment (characters w.prefix)) refl

    most : (f r : List Located) → f ++ r ≡ text → 0 < length f → PieceIs f r → length f ≤ length w.prefix
    most f r whole some (blank_prefix is) =
        let comment = is-comment (characters f) (prefix-first is_separator f r text whole some ∙ facts.separator) (prefix-first (is_char 123) f r text whole some ∙ word-brace text k end w) is in
        let lt = comment-shorter text f r k end whole some w other comment in
        omega arith
    most f r whole some (word_prefix is) = word-most text k end facts w f r whole some is
    most f r whole some (number_prefix is) = absurd (no-number f r text whole some facts.digit is)
    most f r whole some (character_prefix is) = absurd (no-character f r text whole some facts.quote is)
    most f r whole some (string_prefix is) = absurd (no-literal 34 f r text whole some facts.quotes is)

-- ---- dashes that begin a comment

any-none : (w : List ℕ) → list_any (λ c. c == 10) w ≡ false → list_all (λ c. not (c == 10)) w ≡ true
any-none [] none = refl
any-none (c ∷ w) none = by (c == 10) refl (any-none w) none
  where
    by : (b : Bool) → (c == 10) ≡ b → (list_any (λ x. x == 10) w ≡ false → list_all (λ x. not (x == 10)) w ≡ true) → b || list_any (λ x. x == 10) w ≡ false → not b && list_all (λ x. not (x == 10)) w ≡ true
    by true h more none = absurd (true≢false none)
    by false h more none = more none

none-any : (w : List ℕ) → list_all (λ c. not (c == 10)) w ≡ true → list_any (λ c. c == 10) w ≡ false
none-any [] all = refl
none-any (c ∷ w) all = by (c == 10) refl (none-any w) all
  where
    by : (b : Bool) → (c == 10) ≡ b → (list_all (λ x. not (x == 10)) w ≡ true → list_any (λ x. x == 10) w ≡ false) → not b && list_all (λ x. not (x == 10)) w ≡ true → b || list_any (λ x. x == 10) w ≡ false
    by true h more all = absurd (true≢false (sym all))
    by false h more all = more all

pub comment-inline : (w : List ℕ) → is_line_comment w ≡ true → list_all (λ c. not (c == 10)) w ≡ true
unfolding is_line_comment
comment-inline w is =
    let others = and-right (nat_le 2 (prefix_len is_dash w)) (not (begins_with is_symbol (drop (prefix_len is_dash w) w)) && not (list_any (λ c. c == 10) w)) is in
    any-none w (not-true-false (list_any (λ c. c == 10) w) (and-right (not (begins_with is_symbol (drop (prefix_len is_dash w) w))) (not (list_any (λ c. c == 10) w)) others))

record Prefix (v x : List ℕ) : Type 0 where
  size : prefix_len is_dash (v ++ x) ≡ length v
  rest : drop (length v) (v ++ x) ≡ x

prefix-dashes : (v x : List ℕ) → list_all is_dash v ≡ true → begins_with is_symbol x ≡ false → Prefix v x
prefix-dashes [] x all fails = record { size = prefix-none x fails; rest = refl }
prefix-dashes (c ∷ v) x all fails =
    let more = prefix-dashes v x (and-right (is_dash c) (list_all is_dash v) all) fails in
    let first = and-left (is_dash c) (list_all is_dash v) all in
    record { size = ap (λ b. if b then 1 + prefix_len is_dash (v ++ x) else 0) first ∙ (let s = more.size in omega arith); rest = more.rest }

pub dashes-comment : (v x : List ℕ) → is_dashes v ≡ true → begins_with is_symbol x ≡ false → list_all (λ c. not (c == 10)) (v ++ x) ≡ true → is_line_comment (v ++ x) ≡ true
unfolding is_line_comment
dashes-comment v x is fails all =
    let p = prefix-dashes v x (and-right (nat_le 2 (length v)) (list_all is_dash v) is) fails in
    let many = and-left (nat_le 2 (length v)) (list_all is_dash v) is in
    rw (p.size, many, p.rest, fails, none-any (v ++ x) all) refl
