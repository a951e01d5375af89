-- What is left of a text, and how far its first characters go.
use Rattle.std.specs.Prelude.{◌⊎◌, ◌≡◌, ℕ, zero, suc, ◌+◌, ◌*◌, ◌^◌, ◌<◌, ◌≤◌, length, Bool, not, ◌&&◌, ◌==◌, nat_lt, true, false, min, take, codes, MatchOption, List, [], ◌∷◌, ◌++◌, fold, Option, None, Some, if◌then◌else◌}
use Rattle.std.specs.Char.{digit_value, is_ascii_digit, is_ascii_lowercase, is_ascii_uppercase, is_digit}
use Rattle.std.specs.List.{list_all}
use Rattle.std.specs.Option.{option_and_then, option_or}
use Rattle.std.specs.Str.{byte, chars}
use Rattle.cu_lex.specs.declared.class.Class.{Class}
use Rattle.cu_lex.specs.declared.class.Class.TheVariants as class
use Rattle.cu_lex.specs.declared.cursor.Cursor.{Cursor}
use Rattle.cu_lex.specs.Located.{Located, Position, characters, located_from}
use Rattle.cu_lex.specs.declared.number.Number.{Number}
use Rattle.cu_lex.specs.declared.word.Word.{Word}
use Rattle.cu_lex.specs.declared.word.WordKind.{WordKind}
use Rattle.cu_lex.specs.declared.word.WordKind.TheVariants as kind
use Rattle.cu_lex.specs.Words.{entry, begins_with, goes_on_with_number, is_colon, is_con_id, is_dashes, is_operator, is_var_id, keyword_of, reserved_of, is_name_character, is_separator, is_symbol}

-- The place of a cursor.
abbrev pub position : Cursor → Position
position cursor = record { line = cursor.line; column = cursor.column }

-- The characters from a cursor on, where they stand.
unfoldable pub left : Cursor → List Located
left cursor = located_from (position cursor) (chars cursor.text.now)

-- The first character of a text, if it has one.
abbrev pub first_of : List Located → Option ℕ
first_of [] = None
first_of (c ∷ text) = Some c.char

-- The text without its first character.
abbrev pub later : List Located → List Located
later [] = []
later (c ∷ text) = text

-- The longest prefix of a text whose characters are all of a class.
abbrev pub run : (ℕ → Bool) → List Located → List Located
run class [] = []
run class (c ∷ text) = if class c.char then c ∷ run class text else []

-- The text without the longest prefix whose characters are all of a class.
abbrev pub skip : (ℕ → Bool) → List Located → List Located
skip class [] = []
skip class (c ∷ text) = if class c.char then skip class text else c ∷ text

-- A text ends with another.
abbrev pub EndsIn : List Located → List Located → Type 0
EndsIn text end = (prefix : List Located) × (prefix ++ end ≡ text)

-- What follows the comment that closes so many open ones.
abbrev pub comment_end : ℕ → List Located → Option (List Located)
comment_end zero text = Some text
comment_end (suc depth) [] = None
comment_end (suc depth) (c ∷ []) = None
comment_end (suc depth) (c ∷ d ∷ text) =
    if c.char == byte "{" && d.char == byte "-" then comment_end (suc (suc depth)) text
    else if c.char == byte "-" && d.char == byte "}" then comment_end depth text
    else comment_end (suc depth) (d ∷ text)

-- The number that digits write when they follow the digits of another number.
abbrev pub digits_from : ℕ → ℕ → List ℕ → ℕ
digits_from base n digits = fold (λ m c. m * base + digit_value c) n digits

-- Whether a class has a character.
abbrev pub has : Class → ℕ → Bool
has class.Name c = is_name_character c
has class.Symbol c = is_symbol c
has class.Capital c = is_ascii_uppercase c
has class.Small c = is_ascii_lowercase c
has class.Decimal c = is_ascii_digit c
has class.Separator c = is_separator c
has (class.Is d) c = c == d
has class.Underscore c = c == byte "_"
has (class.Digit base) c = is_digit c base
has class.InLine c = not (c == byte "\n")

-- A number, where 128 bits hold it.
abbrev pub within : ℕ → Option ℕ
within n = if nat_lt n (2 ^ 128) then Some n else None

-- Whether a character is a digit of a base.
abbrev pub is_digit_of : ℕ → ℕ → Bool
is_digit_of base c = is_digit c base

-- The digits of a base with which a text begins.
abbrev pub digits : ℕ → List Located → List ℕ
digits base text = characters (run (is_digit_of base) text)

-- One step of the search for the end of a comment keeps the end, and makes the text shorter. There
-- is no step where no comment is closed.
abbrev pub StepsTo : ℕ → List Located → Option (ℕ × Cursor) → Type 0
StepsTo depth text None = comment_end depth text ≡ None
StepsTo depth text (Some (deeper, rest)) =
    (comment_end deeper (left rest) ≡ comment_end depth text) × (length (left rest) < length text)
    × (deeper + length (left rest) ≤ depth + length text)

-- ---- numbers

-- The base that the first two characters write.
abbrev pub prefix_base : List Located → Option ℕ
prefix_base text = entry ((codes "0x", 16) ∷ (codes "0o", 8) ∷ (codes "0b", 2) ∷ [])
    (take 2 (characters text))

-- The number that the first digits of a base write, if there are any, and what follows them.
abbrev pub digits_scan : ℕ → List Located → Option (ℕ × List Located)
digits_scan base text = if begins_with (is_digit_of base) (characters text)
    then Some (digits_from base 0 (digits base text), skip (is_digit_of base) text) else None

-- The number at the start of a text that has its base before it, as `0x2A`, and what follows it.
abbrev pub based_scan : List Located → Option (ℕ × List Located)
based_scan text = option_and_then (λ base. digits_scan base (later (later text))) (prefix_base text)

-- The decimal number at the start of a text, and what follows it. There is none where another
-- digit, or a dot and a digit, follow.
abbrev pub decimal_scan : List Located → Option (ℕ × List Located)
decimal_scan text =
    if goes_on_with_number (characters (skip (is_digit_of 10) text)) then None
    else Some (digits_from 10 0 (digits 10 text), skip (is_digit_of 10) text)

-- The number at the start of a text, with its base before it or decimal, and what follows it.
abbrev pub number_scan : List Located → Option (ℕ × List Located)
number_scan text = option_or (based_scan text) (decimal_scan text)

-- What the code's `Number` stands for: its value, none where it is too large, and what follows it.
abbrev pub found_number : Number → Option ℕ × List Located
found_number number = (number.value, left number.end)

-- A number, none where 128 bits don't hold it, and what follows it.
abbrev pub held : ℕ × List Located → Option ℕ × List Located
held found = (within found.0, found.1)

-- A code, cut down to the first number after the Unicode scalar values.
abbrev pub cap : ℕ → ℕ
cap n = min n 1114112

-- ---- words

-- A text is a word of this kind.
abbrev pub IsOfKind : WordKind → List ℕ → Type 0
IsOfKind kind.VarId word = is_var_id word ≡ true
IsOfKind kind.ConId word = is_con_id word ≡ true
IsOfKind kind.VarOp word = (is_operator word ≡ true) × (begins_with is_colon word ≡ false)
IsOfKind kind.ConOp word = (is_operator word ≡ true) × (begins_with is_colon word ≡ true)
IsOfKind (kind.Keyword k) word = keyword_of word ≡ Some k
IsOfKind (kind.Reserved k) word = reserved_of word ≡ Some k
IsOfKind kind.Dashes word = is_dashes word ≡ true

-- The class of the characters of which a word of this kind is a run.
abbrev pub class_of : WordKind → ℕ → Bool
class_of kind.VarId = is_name_character
class_of kind.ConId = is_name_character
class_of kind.VarOp = is_symbol
class_of kind.ConOp = is_symbol
class_of (kind.Keyword k) = is_name_character
class_of (kind.Reserved k) = is_symbol
class_of kind.Dashes = is_symbol

-- Whether a word of this kind may follow a qualifier: a name or an operator.
abbrev pub is_base : WordKind → Bool
is_base kind.VarId = true
is_base kind.ConId = true
is_base kind.VarOp = true
is_base kind.ConOp = true
is_base (kind.Keyword k) = false
is_base (kind.Reserved k) = false
is_base kind.Dashes = false

-- A text begins with a word of this kind, which is the whole run of its first characters, and this
-- end follows it.
pub record IsWord (text : List Located) (kind : WordKind) (end : List Located) : Type 0 where
  pub prefix : List Located
  pub whole : prefix ++ end ≡ text
  pub is : IsOfKind kind (characters prefix)
  pub all : list_all (class_of kind) (characters prefix) ≡ true
  pub some : begins_with (class_of kind) (characters prefix) ≡ true
  pub ended : begins_with (class_of kind) (characters end) ≡ false

-- Whether a character is the underscore.
abbrev pub is_underscore : ℕ → Bool
is_underscore c = c == byte "_"

-- A text doesn't begin with underscores, if any, and a small letter.
abbrev pub HasNoVariable : List Located → Type 0
HasNoVariable text = begins_with is_ascii_lowercase (characters (skip is_underscore text)) ≡ false

-- A text doesn't begin with a name, a keyword or an operator.
pub record HasNoWord (text : List Located) : Type 0 where
  pub capital : begins_with is_ascii_uppercase (characters text) ≡ false
  pub symbol : begins_with is_symbol (characters text) ≡ false
  pub variable : HasNoVariable text

-- The word that was found is the one with which a text begins. Where none was found, the text
-- begins with no name, keyword or operator.
abbrev pub FindsWord : List Located → Option Word → Type 0
FindsWord text found = MatchOption found (HasNoWord text) (λ w. IsWord text w.kind (left w.end))

-- A text begins with no word that may follow a qualifier.
abbrev pub HasNoBase : List Located → Type 0
HasNoBase text = HasNoWord text
    ⊎ ((kind : WordKind) × (end : List Located) × IsWord text kind end × (is_base kind ≡ false))

abbrev pub con_id_kind : WordKind
con_id_kind = kind.ConId

-- A ConId ends before a dot, and a name or an operator follows the dot.
pub record IsLink (kind : WordKind) (end : List Located) (next : Word) : Type 0 where
  pub con_id : kind ≡ con_id_kind
  pub dot : first_of end ≡ Some (byte ".")
  pub word : IsWord (later end) next.kind (left next.end)
  pub base : is_base next.kind ≡ true
