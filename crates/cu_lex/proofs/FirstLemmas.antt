-- Which classes a prefix can be of, by its first character.
use Rattle.std.proofs.Common.{◌≡◌, ℕ, ◌<◌, ◌≤◌, ⊎_elim, Bool, true, false, ◌&&◌, ◌||◌, ◌==◌, not, List, [], ◌∷◌, ◌++◌, take, drop, Option, Some, None, is_none, if◌then◌else◌, refl, sym, ap, ◌∙◌, arith, true≢false, codes}
use Rattle.std.proofs.lemmas.Bool.{cases_lt, le-ltb}
use Rattle.std.specs.Char.{is_ascii_digit, is_ascii_lowercase, is_ascii_uppercase}
use Rattle.std.specs.List.{list_any}
use Rattle.std.specs.Option.{option_or, option_and_then}
use Rattle.std.specs.Str.{byte, bytes_eq}
use Rattle.cu_lex.specs.declared.token.Keyword as keywords_are
use Rattle.cu_lex.specs.declared.token.ReservedOperator.{ReservedOperator}
use Rattle.cu_lex.specs.declared.word.WordKind.{WordKind}
use Rattle.cu_lex.specs.declared.word.WordKind.TheVariants as kind
use Rattle.cu_lex.specs.Kind.{Kind}
use Rattle.cu_lex.specs.Kind.Kind.{VarId, ConId, VarOp, ConOp}
use Rattle.cu_lex.specs.Inside.Lexing.{named}
use Rattle.cu_lex.specs.Literals.{items_between}
use Rattle.cu_lex.specs.Located.{Located, characters}
use Rattle.cu_lex.specs.Pieces.{blank, word_kind, name_kind, spelled, stands_before}
use Rattle.cu_lex.specs.Pieces.Piece.{Blank}
use Rattle.cu_lex.specs.Inside.Scanning.{is_underscore, is_digit_of, is_base, class_of, IsOfKind}
use Rattle.cu_lex.specs.Words.{begins_with, is_separator, is_name_character, is_symbol, is_dash, keyword_of, keywords, reserved_of, mark_of, marks, is_var_id, is_con_id, is_operator, has_variable_form, is_module_name, is_line_comment, is_nested_comment, based_number, decimal_number, digits_value, goes_on_with_number, closes, is_colon}
use Rattle.cu_lex.proofs.AsciiLemmas.{apart, small-capital, small-symbol, at_below, above_range, capital-name}
use Rattle.cu_lex.proofs.ChainLemmas.{entry-none, keyword-small, reserved-symbol, var-form, var-keyword, con-capital, con-all, operator-first, operator-reserved, capital-var, symbol-var, symbol-capital, name-apart, capital-small}
use Rattle.cu_lex.proofs.ItemLemmas.{digits-none}
use Rattle.cu_lex.proofs.QualifiedLemmas.{is_base_word, no-dot, capital-prefix, module-capital, parts-are}

-- ---- first characters of each class

abbrev pub is_mark : ℕ → Bool
is_mark c = list_any (λ m. c == m) (codes "()[]{},;`_")

abbrev pub begins_blank : ℕ → Bool
begins_blank c = is_separator c || (is_dash c || c == byte "{")

abbrev pub begins_variable : ℕ → Bool
begins_variable c = is_ascii_lowercase c || is_underscore c

abbrev pub begins_word : ℕ → Bool
begins_word c = is_ascii_uppercase c || (begins_variable c || (is_symbol c || is_mark c))

abbrev pub is_char : ℕ → ℕ → Bool
is_char d c = c == d

or-left-false : (a b : Bool) → a || b ≡ false → a ≡ false
or-left-false true b is = is
or-left-false false b is = refl

or-right-false : (a b : Bool) → a || b ≡ false → b ≡ false
or-right-false true b is = absurd (true≢false is)
or-right-false false b is = is

-- ---- blanks

pub blank-none : (w : List ℕ) → begins_with begins_blank w ≡ false → blank w ≡ None
unfolding is_line_comment is_nested_comment
blank-none [] fails = refl
blank-none (c ∷ w) fails =
    let separator : is_separator c ≡ false = or-left-false (is_separator c) (is_dash c || c == byte "{") fails in
    let others = or-right-false (is_separator c) (is_dash c || c == byte "{") fails in
    let dash : is_dash c ≡ false = or-left-false (is_dash c) (c == byte "{") others in
    let brace : (c == byte "{") ≡ false = or-right-false (is_dash c) (c == byte "{") others in
    rw (separator, dash) (by w brace)
  where
    by : (w : List ℕ) → (c == byte "{") ≡ false → (if (bytes_eq (take 2 (c ∷ w)) (codes "{-") && closes 1 (drop 2 (c ∷ w))) then Some Blank else None) ≡ None
    by [] brace = rw brace refl
    by (d ∷ w) brace = rw brace refl

-- ---- numbers

same : Bool → Bool → Bool
same true b = b
same false b = not b

from-same : (a b : Bool) → same a b ≡ true → a ≡ b
unfolding same
from-same true true is = refl
from-same true false is = sym is
from-same false true is = is
from-same false false is = refl

-- the digits of ten are the digits
pub digit-ten : (c : ℕ) → is_digit_of 10 c ≡ is_ascii_digit c
unfolding same
digit-ten c = ⊎_elim (λ small. from-same (is_digit_of 10 c) (is_ascii_digit c) (at_below 128 (λ x. same (is_digit_of 10 x) (is_ascii_digit x)) refl c small)) above (cases_lt c 128)
  where
    above : 128 ≤ c → is_digit_of 10 c ≡ is_ascii_digit c
    above ge =
        let a : 48 ≤ c = omega arith in
        let b : 58 ≤ c = omega arith in
        let d : 65 ≤ c = omega arith in
        let e : 91 ≤ c = omega arith in
        let f : 97 ≤ c = omega arith in
        let g : 123 ≤ c = omega arith in
        let high : 57 < c = omega arith in
        rw (le-ltb c 48 a, le-ltb c 58 b, le-ltb c 65 d, le-ltb c 91 e, le-ltb c 97 f, le-ltb c 123 g, above_range 48 57 c high) refl

pub begins-ten : (w : List ℕ) → begins_with (is_digit_of 10) w ≡ begins_with is_ascii_digit w
begins-ten [] = refl
begins-ten (c ∷ w) = digit-ten c

abbrev pub bases : List (List ℕ × ℕ)
bases = (codes "0x", 16) ∷ (codes "0o", 8) ∷ (codes "0b", 2) ∷ []

take-first : (p : ℕ → Bool) (w : List ℕ) → begins_with p (take 2 w) ≡ begins_with p w
take-first p [] = refl
take-first p (c ∷ w) = refl

pub based-none : (w : List ℕ) → begins_with is_ascii_digit w ≡ false → based_number w ≡ None
unfolding based_number
based-none w fails = rw (entry-none (begins_with is_ascii_digit) bases refl (take 2 w) (take-first is_ascii_digit w ∙ fails)) refl

pub decimal-none : (w next : List ℕ) → begins_with is_ascii_digit w ≡ false → decimal_number w next ≡ None
unfolding decimal_number
decimal-none w next fails = by (goes_on_with_number next) (digits-none 10 w (begins-ten w ∙ fails))
  where
    by : (b : Bool) → digits_value 10 w ≡ None → (if b then None else digits_value 10 w) ≡ None
    by true none = refl
    by false none = none

pub number-none : (w next : List ℕ) → begins_with is_ascii_digit w ≡ false → option_or (decimal_number w next) (based_number w) ≡ None
number-none w next fails = rw (decimal-none w next fails) (based-none w fails)

-- ---- literals

pub literal-none : (quote : ℕ) (f : List Located) → begins_with (is_char quote) (characters f) ≡ false → items_between quote f ≡ None
unfolding items_between
literal-none quote [] fails = refl
literal-none quote (c ∷ f) fails = rw fails refl

-- ---- words

pub mark-none : (w : List ℕ) → begins_with is_mark w ≡ false → mark_of w ≡ None
unfolding mark_of
mark-none w fails = entry-none (begins_with is_mark) marks refl w fails

abbrev pub is_dashes_kind : WordKind → Bool
is_dashes_kind kind.VarId = false
is_dashes_kind kind.ConId = false
is_dashes_kind kind.VarOp = false
is_dashes_kind kind.ConOp = false
is_dashes_kind (kind.Keyword k) = false
is_dashes_kind (kind.Reserved k) = false
is_dashes_kind kind.Dashes = true

pub stands-named : (q : Option (List ℕ)) (k : WordKind) (w next : List ℕ) → is_dashes_kind k ≡ false → stands_before (named q k w) next ≡ not (begins_with (class_of k) next)
stands-named q kind.VarId w next is = refl
stands-named q kind.ConId w next is = refl
stands-named q kind.VarOp w next is = refl
stands-named q kind.ConOp w next is = refl
stands-named q (kind.Keyword k) w next is = refl
stands-named q (kind.Reserved k) w next is = refl
stands-named q kind.Dashes w next is = absurd (true≢false is)

pub record Named (q : Option (List ℕ)) (w : List ℕ) (found : Kind) : Type 0 where
  pub what : WordKind
  pub is : IsOfKind what w
  pub base : is_base what ≡ true
  pub same_kind : found ≡ named q what w

pub name-cases : (q : Option (List ℕ)) (w : List ℕ) (found : Kind) → name_kind q w ≡ Some found → Named q w found
unfolding name_kind
name-cases q w found is = by (is_var_id w) refl (is_con_id w) refl (is_operator w) refl (begins_with is_colon w) refl is
  where
    by : (a : Bool) → is_var_id w ≡ a → (b : Bool) → is_con_id w ≡ b → (c : Bool) → is_operator w ≡ c → (d : Bool) → begins_with is_colon w ≡ d
        → (if a then Some (VarId (spelled q w)) else if b then Some (ConId (spelled q w)) else if c then Some (if d then ConOp (spelled q w) else VarOp (spelled q w)) else None) ≡ Some found
        → Named q w found
    by true ha b hb c hc d hd is = record { what = kind.VarId; is = ha; base = refl; same_kind = let e : VarId (spelled q w) ≡ found = cc in sym e }
    by false ha true hb c hc d hd is = record { what = kind.ConId; is = hb; base = refl; same_kind = let e : ConId (spelled q w) ≡ found = cc in sym e }
    by false ha false hb true hc true hd is = record { what = kind.ConOp; is = (hc, hd); base = refl; same_kind = let e : ConOp (spelled q w) ≡ found = cc in sym e }
    by false ha false hb true hc false hd is = record { what = kind.VarOp; is = (hc, hd); base = refl; same_kind = let e : VarOp (spelled q w) ≡ found = cc in sym e }
    by false ha false hb false hc d hd is = absurd (let impossible : ⊥ = cc in impossible)

-- tests that words of a kind fail
pub var-no-con : (w : List ℕ) → begins_with is_ascii_uppercase w ≡ true → is_var_id w ≡ false
unfolding is_var_id
var-no-con w capital = rw (capital-var w capital) refl

pub var-no-symbol : (w : List ℕ) → begins_with is_symbol w ≡ true → is_var_id w ≡ false
unfolding is_var_id
var-no-symbol w symbol = rw (symbol-var w symbol) refl

pub no-capital-con : (w : List ℕ) → begins_with is_ascii_uppercase w ≡ false → is_con_id w ≡ false
unfolding is_con_id
no-capital-con w fails = rw fails refl

pub no-symbol-operator : (w : List ℕ) → begins_with is_symbol w ≡ false → is_operator w ≡ false
unfolding is_operator
no-symbol-operator w fails = rw fails refl

pub symbol-no-capital : (w : List ℕ) → begins_with is_symbol w ≡ true → begins_with is_ascii_uppercase w ≡ false
symbol-no-capital [] is = refl
symbol-no-capital (c ∷ w) is = symbol-capital c is

pub capital-no-symbol : (w : List ℕ) → begins_with is_ascii_uppercase w ≡ true → begins_with is_symbol w ≡ false
capital-no-symbol [] is = refl
capital-no-symbol (c ∷ w) is = name-apart c (capital-name c is)

pub name-is : (q : Option (List ℕ)) (w : List ℕ) (k : WordKind) → IsOfKind k w → is_base k ≡ true → name_kind q w ≡ Some (named q k w)
unfolding name_kind
name-is q w kind.VarId is base = rw is refl
name-is q w kind.ConId is base = rw (var-no-con w (con-capital w is), is) refl
name-is q w kind.VarOp is base = let s = operator-first w is.0 in rw (var-no-symbol w s, no-capital-con w (symbol-no-capital w s), is.0, is.1) refl
name-is q w kind.ConOp is base = let s = operator-first w is.0 in rw (var-no-symbol w s, no-capital-con w (symbol-no-capital w s), is.0, is.1) refl
name-is q w (kind.Keyword k) is base = absurd (true≢false (sym base))
name-is q w (kind.Reserved k) is base = absurd (true≢false (sym base))
name-is q w kind.Dashes is base = absurd (true≢false (sym base))

symbol-small : (w : List ℕ) → begins_with is_symbol w ≡ true → begins_with is_ascii_lowercase w ≡ false
unfolding is_symbol
symbol-small [] is = refl
symbol-small (c ∷ w) is = apart is_symbol is_ascii_lowercase refl c (small-symbol c is) is

symbol-mark : (w : List ℕ) → begins_with is_symbol w ≡ true → begins_with is_mark w ≡ false
unfolding is_symbol
symbol-mark [] is = refl
symbol-mark (c ∷ w) is = apart is_symbol is_mark refl c (small-symbol c is) is

pub capital-mark : (w : List ℕ) → begins_with is_ascii_uppercase w ≡ true → begins_with is_mark w ≡ false
capital-mark [] is = refl
capital-mark (c ∷ w) is = apart is_ascii_uppercase is_mark refl c (small-capital c is) is

var-mark : (w : List ℕ) → has_variable_form w ≡ true → mark_of w ≡ None
unfolding mark_of is_name_character
var-mark w form = entry-none (λ x. not (has_variable_form x)) marks refl w (ap not form)

form-symbol : (w : List ℕ) → has_variable_form w ≡ true → begins_with is_symbol w ≡ false
form-symbol w form = by (begins_with is_symbol w) refl
  where
    by : (b : Bool) → begins_with is_symbol w ≡ b → b ≡ false
    by false h = refl
    by true h = absurd (true≢false (sym form ∙ symbol-var w h))

none-of : {X : Type 0} (o : Option X) → is_none o ≡ true → o ≡ None
none-of None is = refl
none-of (Some x) is = absurd (true≢false (sym is))

pub reserved-first : (w : List ℕ) (k : ReservedOperator) → reserved_of w ≡ Some k → begins_with is_symbol w ≡ true
reserved-first w k is = by (begins_with is_symbol w) refl
  where
    by : (b : Bool) → begins_with is_symbol w ≡ b → b ≡ true
    by true h = refl
    by false h = let none = reserved-symbol w h in cc

pub word-is : (w : List ℕ) (k : WordKind) → IsOfKind k w → is_dashes_kind k ≡ false → word_kind w ≡ Some (named None k w)
unfolding word_kind
word-is w kind.VarId is no_dashes =
    let form = var-form w is in
    rw (none-of (keyword_of w) (var-keyword w is), reserved-symbol w (form-symbol w form), var-mark w form, name-is None w kind.VarId is refl) refl
word-is w kind.ConId is no_dashes =
    let capital = con-capital w is in
    rw (keyword-small w (capital-small w capital), reserved-symbol w (capital-no-symbol w capital), mark-none w (capital-mark w capital), name-is None w kind.ConId is refl) refl
word-is w kind.VarOp is no_dashes =
    let symbol = operator-first w is.0 in
    rw (keyword-small w (symbol-small w symbol), none-of (reserved_of w) (operator-reserved w is.0), mark-none w (symbol-mark w symbol), name-is None w kind.VarOp is refl) refl
word-is w kind.ConOp is no_dashes =
    let symbol = operator-first w is.0 in
    rw (keyword-small w (symbol-small w symbol), none-of (reserved_of w) (operator-reserved w is.0), mark-none w (symbol-mark w symbol), name-is None w kind.ConOp is refl) refl
word-is w (kind.Keyword k) is no_dashes = rw is refl
word-is w (kind.Reserved k) is no_dashes = rw (keyword-small w (symbol-small w (reserved-first w k is)), is) refl
word-is w kind.Dashes is no_dashes = absurd (true≢false no_dashes)

dot-con : (o i : List ℕ) → is_con_id (o ++ 46 ∷ i) ≡ false
dot-con o i = by (is_con_id (o ++ 46 ∷ i)) refl
  where
    by : (b : Bool) → is_con_id (o ++ 46 ∷ i) ≡ b → b ≡ false
    by false h = refl
    by true h = absurd (no-dot o i (con-all (o ++ 46 ∷ i) h))

or-last : (b c : Bool) → b || (c || true) ≡ true
or-last true c = refl
or-last false true = refl
or-last false false = refl

or-middle : (b : Bool) → b || true ≡ true
or-middle true = refl
or-middle false = refl

base-word : (w : List ℕ) (k : WordKind) → IsOfKind k w → is_base k ≡ true → is_base_word w ≡ true
base-word w kind.VarId is base = rw is refl
base-word w kind.ConId is base = rw is (or-middle (is_var_id w))
base-word w kind.VarOp is base = rw is.0 (or-last (is_var_id w) (is_con_id w))
base-word w kind.ConOp is base = rw is.0 (or-last (is_var_id w) (is_con_id w))
base-word w (kind.Keyword k) is base = absurd (true≢false (sym base))
base-word w (kind.Reserved k) is base = absurd (true≢false (sym base))
base-word w kind.Dashes is base = absurd (true≢false (sym base))

pub qualified-is : (o i : List ℕ) (k : WordKind) → is_module_name o ≡ true → IsOfKind k i → is_base k ≡ true → word_kind (o ++ 46 ∷ i) ≡ Some (named (Some o) k i)
unfolding word_kind name_kind
qualified-is o i k outer is base =
    let capital = capital-prefix o (46 ∷ i) (module-capital o outer) in
    let w = o ++ 46 ∷ i in
    let parts = ap (option_and_then (λ parts. name_kind (Some parts.0) parts.1)) (parts-are o i outer (base-word i k is base)) ∙ name-is (Some o) i k is base in
    rw (keyword-small w (capital-small w capital), reserved-symbol w (capital-no-symbol w capital), mark-none w (capital-mark w capital), var-no-con w capital, dot-con o i, no-symbol-operator w (capital-no-symbol w capital)) parts

-- keywords have the form of variables
pub keyword-form : (w : List ℕ) (k : keywords_are.Keyword) → keyword_of w ≡ Some k → has_variable_form w ≡ true
unfolding keyword_of is_name_character
keyword-form w k is = by (has_variable_form w) refl
  where
    by : (b : Bool) → has_variable_form w ≡ b → b ≡ true
    by true h = refl
    by false h = let none = entry-none has_variable_form keywords refl w h in cc
