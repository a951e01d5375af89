-- The pieces of a module's text: its tokens, and what stands between them.
use Rattle.std.specs.Prelude.{ℕ, pos, Bool, true, not, ◌||◌, List, [], ◌∷◌, ◌++◌, codes, Option, None, Some, Result, Ok, Err, if◌then◌else◌}
use Rattle.std.specs.Option.{option_and_then, option_map, option_or}
use Rattle.std.specs.Result.{result_map_both}
use Rattle.std.specs.Str.{byte}
use lib.Utf8.{scalar}
use Rattle.cu_lex.specs.declared.token.Mark.TheVariants as mark
use Rattle.cu_lex.specs.declared.token.Special.{Special}
use Rattle.cu_lex.specs.declared.token.Special.TheVariants as special
use Rattle.cu_int.specs.Integers.{is_integer}
use Rattle.cu_lex.specs.Kind.{Kind, Spelling}
use Rattle.cu_lex.specs.Kind.Kind.{VarId, ConId, VarOp, ConOp, Keyword, Reserved, Mark, Int, Char, String}
use Rattle.cu_lex.specs.Literals.{items_between}
use Rattle.cu_lex.specs.Located.{Position, Located, first_position, characters}
use Rattle.cu_lex.specs.Munch.{Classes, Placed}
use Rattle.cu_lex.specs.Words.{entry, begins_with, is_single, is_separator, is_name_character, is_symbol, is_dash, is_colon, keyword_of, reserved_of, mark_of, is_var_id, is_con_id, is_operator, qualified_parts, based_number, decimal_number, is_line_comment, is_nested_comment}

-- A blank, which is no token; a token; or a literal with something out of range, at its place.
pub data Piece : Type 0 where
  Blank : Piece
  Token : Kind → Piece
  OutOfRange : Position → Piece

-- ---- blanks

-- Whether a word is a blank: white space, or a comment.
abbrev pub is_blank : List ℕ → Bool
is_blank word = is_single is_separator word || (is_line_comment word || is_nested_comment word)

-- The piece that a prefix of a text is, where it is a blank.
abbrev pub blank : List ℕ → Option Piece
blank word = if is_blank word then Some Blank else None

-- ---- names, keywords, operators and marks

-- The names that have a meaning of their own in some places and are no keywords.
unfoldable pub special_of : List ℕ → Option Special
special_of =
    entry ((codes "qualified", special.Qualified) ∷ (codes "as", special.As)
    ∷ (codes "hiding", special.Hiding) ∷ (codes "-", special.Minus) ∷ [])

-- A word with its qualifier, if it has one.
abbrev pub spelled : Option (List ℕ) → List ℕ → Spelling
spelled None word = record { text = word; qualifier = None; base = word; special = special_of word }
spelled (Some outer) word =
    record {
      text = outer ++ codes "." ++ word;
      qualifier = Some outer;
      base = word;
      special = None;
    }

-- The kind of an operator: a ConOp begins with a colon.
abbrev pub operator : List ℕ → Spelling → Kind
operator word name = if begins_with is_colon word then ConOp name else VarOp name

-- The kind of a VarId, a ConId or an operator with such a qualifier, or without one.
unfoldable pub name_kind : Option (List ℕ) → List ℕ → Option Kind
name_kind qualifier word =
    if is_var_id word then Some (VarId (spelled qualifier word))
    else if is_con_id word then Some (ConId (spelled qualifier word))
    else if is_operator word then Some (operator word (spelled qualifier word))
    else None

-- The kind of a keyword, a reserved operator, a mark, or a name, qualified or not.
unfoldable pub word_kind : List ℕ → Option Kind
word_kind word =
    option_or (option_map Keyword (keyword_of word))
    (option_or (option_map Reserved (reserved_of word))
    (option_or (option_map Mark (mark_of word))
    (option_or (name_kind None word)
    (option_and_then (λ parts. name_kind (Some parts.0) parts.1) (qualified_parts word)))))

-- Whether a word of this kind may stand before these characters. No character of names follows a
-- name or a keyword, and no symbol follows an operator, reserved or not. A brace before a dash is
-- none, since it begins a comment. Any other mark may stand before anything.
abbrev pub stands_before : Kind → List ℕ → Bool
stands_before (VarId name) next = not (begins_with is_name_character next)
stands_before (ConId name) next = not (begins_with is_name_character next)
stands_before (Keyword word) next = not (begins_with is_name_character next)
stands_before (VarOp name) next = not (begins_with is_symbol next)
stands_before (ConOp name) next = not (begins_with is_symbol next)
stands_before (Reserved word) next = not (begins_with is_symbol next)
stands_before (Mark mark.OpenBrace) next = not (begins_with is_dash next)
stands_before kind next = true

-- A word of a kind, where it may stand before these characters.
abbrev pub word_before : List ℕ → Kind → Option Piece
word_before next kind = if stands_before kind next then Some (Token kind) else None

-- The piece that a prefix of a text is, where it is a keyword, a name, an operator or a mark.
abbrev pub word : List ℕ → List ℕ → Option Piece
word prefix next = option_and_then (word_before next) (word_kind prefix)

-- ---- literals

-- The piece of a number at a place: a token where the number is an integer of the language, and
-- else out of range.
abbrev pub number_at : Position → ℕ → Piece
number_at p n = if is_integer (pos n) then Token (Int (pos n)) else OutOfRange p

-- The piece that a prefix of a text is, where it is a number.
abbrev pub number : Position → List ℕ → List ℕ → Option Piece
number p prefix next =
    option_map (number_at p) (option_or (decimal_number prefix next) (based_number prefix))

-- The piece of a character literal with this code: a token where it is a Unicode scalar value, and
-- else out of range.
abbrev pub character_at : Position → ℕ → Piece
character_at p code = if scalar code then Token (Char code) else OutOfRange p

-- The piece of a character literal with these items: there is one item, and it has a code.
abbrev pub one_character : List (Placed (Option ℕ)) → Option Piece
one_character [] = None
one_character (i ∷ []) = option_map (character_at i.at) i.what
one_character (i ∷ j ∷ items) = None

-- What an item at a place adds to the value of a string: nothing, a scalar value, or that it is out
-- of range.
abbrev pub with_code : Option ℕ → Position → Result (List ℕ) Position → Result (List ℕ) Position
with_code None p more = more
with_code (Some code) p more = if scalar code
    then result_map_both (λ later. code ∷ later) (λ fault. fault) more else Err p

-- The value of a string literal, or the place of its first item out of range.
abbrev pub codes_of : List (Placed (Option ℕ)) → Result (List ℕ) Position
codes_of [] = Ok []
codes_of (i ∷ items) = with_code i.what i.at (codes_of items)

-- The piece of a string literal with this value, or with its first item out of range at a place.
abbrev pub string_of : Result (List ℕ) Position → Piece
string_of (Ok value) = Token (String value)
string_of (Err p) = OutOfRange p

-- The piece of a string literal with these items.
abbrev pub string : List (Placed (Option ℕ)) → Piece
string items = string_of (codes_of items)

-- ---- all classes

-- The place of a prefix's first character.
abbrev pub start : List Located → Position
start [] = first_position
start (first ∷ text) = first.at

-- What a prefix of a text is before what follows it: a blank, a word, a number, a character
-- literal, or a string literal.
unfoldable pub piece : Classes Piece
piece prefix rest =
    option_or (blank (characters prefix))
    (option_or (word (characters prefix) (characters rest))
    (option_or (number (start prefix) (characters prefix) (characters rest))
    (option_or (option_and_then one_character (items_between (byte "'") prefix))
    (option_map string (items_between (byte "\"") prefix)))))
