-- Items of literals, as they are read from the left.
use Rattle.std.specs.Prelude.{◌≡◌, ℕ, ◌==◌, ◌||◌, true, false, List, [], ◌∷◌, ◌++◌, Result, Option, None, Some, Ok, Err, if◌then◌else◌}
use Rattle.std.specs.Char.{is_ascii_control}
use Rattle.std.specs.Option.{option_map}
use Rattle.std.specs.Result.{result_map_both}
use Rattle.std.specs.Str.{byte}
use lib.Utf8.{scalar}
use Rattle.cu_lex.specs.declared.cursor.Cursor.{Cursor}
use Rattle.cu_lex.specs.declared.literal.CharLiteral.{CharLiteral}
use Rattle.cu_lex.specs.declared.literal.CharLiteral.TheVariants as one
use Rattle.cu_lex.specs.declared.literal.Item.{Item}
use Rattle.cu_lex.specs.declared.literal.Literal.{Literal}
use Rattle.cu_lex.specs.declared.literal.Literal.TheVariants as several
use Rattle.cu_lex.specs.Literals.{item, short_escape}
use Rattle.cu_lex.specs.Located.{Located, Position, characters}
use Rattle.cu_lex.specs.Munch.{Pieces, cut_all}
use Rattle.cu_lex.specs.Pieces.{codes_of, with_code}
use Rattle.cu_lex.specs.Inside.Scanning.{cap, digits, digits_from, is_digit_of, later, left, position, skip}
use Rattle.cu_lex.specs.Words.{begins_with}

-- What reading an item from the left gives: the code that it stands for, if any, and what follows
-- it; None where a text begins with no item.
abbrev pub Scan : Type 0
Scan = Option (Option ℕ × List Located)

-- The code that the first digits of a base write, and what follows them.
abbrev pub numeric_scan : ℕ → List Located → Scan
numeric_scan base text = if begins_with (is_digit_of base) (characters text)
    then Some (Some (digits_from base 0 (digits base text)), skip (is_digit_of base) text) else None

-- A short escape, where one was found, or else a decimal one.
abbrev pub short_or_decimal : Option ℕ → List Located → Scan
short_or_decimal (Some code) text = Some (Some code, later text)
short_or_decimal None text = numeric_scan 10 text

-- The item that follows a backslash.
abbrev pub escape_scan : List Located → Scan
escape_scan [] = None
escape_scan (d ∷ text) =
    if d.char == byte "&" then Some (None, text)
    else if d.char == byte "x" then numeric_scan 16 text
    else if d.char == byte "o" then numeric_scan 8 text
    else short_or_decimal (short_escape (d.char ∷ [])) (d ∷ text)

-- The item at the start of a text, in a literal between such quotes.
abbrev pub item_scan : ℕ → List Located → Scan
item_scan quote [] = None
item_scan quote (c ∷ text) =
    if c.char == byte "\\" then escape_scan text
    else if c.char == quote || is_ascii_control c.char then None
    else Some (Some c.char, text)

-- An item with its code cut down to the greatest that the code of the lexer gives.
abbrev pub capped : Option ℕ × List Located → Option ℕ × List Located
capped found = (option_map cap found.0, found.1)

-- What the code's `Item` stands for: its code, if any, and what follows it.
abbrev pub read_item : Item → Option ℕ × List Located
read_item item = (item.code, left item.end)

-- A text begins with a quote, and this rest follows.
pub record IsQuoted (quote : ℕ) (text rest : List Located) : Type 0 where
  pub mark : Located
  pub is : mark.char ≡ quote
  pub whole : text ≡ mark ∷ rest

-- The code's answer on a character literal is right: its value, its code out of range, or that
-- there is no such literal.
abbrev pub IsCharLiteral : List Located → CharLiteral → Type 0
IsCharLiteral text (one.Value c end) =
    (close : List Located) × (item_scan (byte "'") (later text) ≡ Some (Some c, close))
    × IsQuoted (byte "'") close (left end) × (scalar c ≡ true)
IsCharLiteral text (one.OutOfRange at) =
    (n : ℕ) × (close : List Located) × (end : List Located)
    × (item_scan (byte "'") (later text) ≡ Some (Some n, close)) × IsQuoted (byte "'") close end
    × (scalar n ≡ false) × (left at ≡ later text)
IsCharLiteral text one.Bad = (n : ℕ) (close end : List Located)
    → item_scan (byte "'") (later text) ≡ Some (Some n, close) → IsQuoted (byte "'") close end → ⊥

-- The items after the quote that begins a string literal.
abbrev pub string_items : List Located → Pieces (Option ℕ)
string_items text = cut_all (item (byte "\"")) (later text)

-- The value of the items so far, or the place of the first that is out of range.
abbrev pub so_far : List ℕ → Option Cursor → Result (List ℕ) Position
so_far value None = Ok value
so_far value (Some at) = Err (position at)

-- The value of some items, and then that of the items after them. The first fault stays.
abbrev pub joined : Result (List ℕ) Position → Result (List ℕ) Position → Result (List ℕ) Position
joined (Ok value) more = result_map_both (λ later. value ++ later) (λ fault. fault) more
joined (Err p) more = Err p

-- A code at a place, added to the value of the items before it, gives this new value.
abbrev pub Adds : Result (List ℕ) Position → Option ℕ → Position → Result (List ℕ) Position → Type 0
Adds old code p new = (more : Result (List ℕ) Position)
    → joined new more ≡ joined old (with_code code p more)

-- The code's answer on a string literal is right: its value, the place of the first item out of
-- range, or that there is no such literal.
abbrev pub IsString : List Located → Literal → Type 0
IsString text (several.Value value end) = IsQuoted (byte "\"") ((string_items text).left) (left end)
    × (codes_of (string_items text).pieces ≡ Ok value)
IsString text (several.OutOfRange at) = (end : List Located)
    × IsQuoted (byte "\"") ((string_items text).left) end
    × (codes_of (string_items text).pieces ≡ Err (position at))
IsString text several.Bad = (end : List Located)
    → IsQuoted (byte "\"") ((string_items text).left) end → ⊥
