-- The words of the token classes, but for literals in quotes (Curry Report, appendix on syntax).
use Rattle.std.specs.Prelude.{ℕ, zero, suc, ◌+◌, ◌*◌, Bool, true, false, not, ◌&&◌, ◌||◌, ◌==◌, nat_le, List, [], ◌∷◌, length, drop, take, map, fold, codes, Option, is_none, None, Some, if◌then◌else◌}
use Rattle.std.specs.Char.{digit_value, is_ascii_alphanumeric, is_ascii_digit, is_ascii_lowercase, is_ascii_uppercase, is_digit}
use Rattle.std.specs.List.{find, list_all, list_any, prefix_len}
use Rattle.std.specs.Map.{lookup}
use Rattle.std.specs.Option.{option_and_then}
use Rattle.std.specs.Str.{byte, bytes_eq}
use Rattle.cu_lex.specs.declared.token.Keyword.{Keyword}
use Rattle.cu_lex.specs.declared.token.Keyword.TheVariants as keyword
use Rattle.cu_lex.specs.declared.token.Mark.{Mark}
use Rattle.cu_lex.specs.declared.token.Mark.TheVariants as mark
use Rattle.cu_lex.specs.declared.token.ReservedOperator.{ReservedOperator}
use Rattle.cu_lex.specs.declared.token.ReservedOperator.TheVariants as reserved

-- ---- classes of characters

-- Whether a character separates tokens: space, tab, carriage return, line feed and form feed.
unfoldable pub is_separator : ℕ → Bool
is_separator c = list_any (λ s. c == s) (codes " \t\r\n\u{c}")

-- Whether a character goes on with a name: letters, digits, underscores and primes.
unfoldable pub is_name_character : ℕ → Bool
is_name_character c = is_ascii_alphanumeric c || (c == byte "_" || c == byte "'")

-- Whether a character is one of those that operators are made of.
unfoldable pub is_symbol : ℕ → Bool
is_symbol c = list_any (λ s. c == s) (codes "~!@#$%^&*+-=<>?./|\\:")

-- Whether a character is the dash, with two of which a comment begins.
abbrev pub is_dash : ℕ → Bool
is_dash c = c == byte "-"

-- Whether a character is the colon, with which the operators of constructors begin.
abbrev pub is_colon : ℕ → Bool
is_colon c = c == byte ":"

-- Whether the first character of a word is of a class.
abbrev pub begins_with : (ℕ → Bool) → List ℕ → Bool
begins_with class [] = false
begins_with class (c ∷ cs) = class c

-- Whether a word is one character, and that is of a class.
abbrev pub is_single : (ℕ → Bool) → List ℕ → Bool
is_single class word = begins_with class word && length word == 1

-- Whether a word is one or more characters, all of a class.
abbrev pub is_run : (ℕ → Bool) → List ℕ → Bool
is_run class word = begins_with class word && list_all class word

-- ---- tables of words

-- What a table has for a word.
abbrev pub entry : {X : Type 0} → List (List ℕ × X) → List ℕ → Option X
entry table word = lookup (bytes_eq word) table

-- The keywords.
abbrev pub keywords : List (List ℕ × Keyword)
keywords =
    (codes "case", keyword.Case) ∷ (codes "data", keyword.Data) ∷ (codes "do", keyword.Do)
    ∷ (codes "else", keyword.Else)
    ∷ (codes "external", keyword.External) ∷ (codes "fcase", keyword.Fcase)
    ∷ (codes "foreign", keyword.Foreign) ∷ (codes "free", keyword.Free)
    ∷ (codes "if", keyword.If) ∷ (codes "import", keyword.Import) ∷ (codes "in", keyword.In)
    ∷ (codes "infix", keyword.Infix)
    ∷ (codes "infixl", keyword.Infixl) ∷ (codes "infixr", keyword.Infixr)
    ∷ (codes "let", keyword.Let) ∷ (codes "module", keyword.Module)
    ∷ (codes "newtype", keyword.Newtype) ∷ (codes "of", keyword.Of) ∷ (codes "then", keyword.Then)
    ∷ (codes "type", keyword.Type)
    ∷ (codes "where", keyword.Where) ∷ []

-- The keyword that a word is.
unfoldable pub keyword_of : List ℕ → Option Keyword
keyword_of = entry keywords

-- The reserved operators.
abbrev pub reserved_operators : List (List ℕ × ReservedOperator)
reserved_operators =
    (codes "..", reserved.DotDot) ∷ (codes "::", reserved.DoubleColon)
    ∷ (codes "=", reserved.Equals) ∷ (codes "\\", reserved.Backslash)
    ∷ (codes "|", reserved.Bar) ∷ (codes "<-", reserved.LeftArrow)
    ∷ (codes "->", reserved.RightArrow) ∷ (codes "@", reserved.At)
    ∷ (codes "~", reserved.Tilde) ∷ []

-- The reserved operator that a word is.
unfoldable pub reserved_of : List ℕ → Option ReservedOperator
reserved_of = entry reserved_operators

-- The marks.
abbrev pub marks : List (List ℕ × Mark)
marks =
    (codes "(", mark.OpenParen) ∷ (codes ")", mark.CloseParen) ∷ (codes "[", mark.OpenSquare)
    ∷ (codes "]", mark.CloseSquare)
    ∷ (codes "{", mark.OpenBrace) ∷ (codes "}", mark.CloseBrace) ∷ (codes ",", mark.Comma)
    ∷ (codes ";", mark.Semicolon)
    ∷ (codes "`", mark.Backquote) ∷ (codes "_", mark.Underscore) ∷ []

-- The mark that a word is.
unfoldable pub mark_of : List ℕ → Option Mark
mark_of = entry marks

-- ---- names and operators

-- Whether a word is any number of underscores, a small letter, and then characters of names.
abbrev pub has_variable_form : List ℕ → Bool
has_variable_form [] = false
has_variable_form (c ∷ cs) = (c == byte "_" && has_variable_form cs)
    || (is_ascii_lowercase c && list_all is_name_character cs)

-- Whether a word is a VarId: it has the form of a variable and is no keyword.
unfoldable pub is_var_id : List ℕ → Bool
is_var_id word = has_variable_form word && is_none (keyword_of word)

-- Whether a word is a ConId: a capital letter, and then characters of names.
unfoldable pub is_con_id : List ℕ → Bool
is_con_id word = begins_with is_ascii_uppercase word && list_all is_name_character word

-- Whether a word is two or more dashes, with which a comment begins.
abbrev pub is_dashes : List ℕ → Bool
is_dashes word = nat_le 2 (length word) && list_all is_dash word

-- Whether a word is an operator: a run of symbols that is neither reserved nor the start of a
-- comment.
unfoldable pub is_operator : List ℕ → Bool
is_operator word = is_run is_symbol word && (is_none (reserved_of word) && not (is_dashes word))

-- The parts of a text with one more character at the start of the first part.
abbrev pub with_first : ℕ → List (List ℕ) → List (List ℕ)
with_first c [] = (c ∷ []) ∷ []
with_first c (part ∷ parts) = (c ∷ part) ∷ parts

-- The parts of a text between its dots.
abbrev pub between_dots : List ℕ → List (List ℕ)
between_dots [] = [] ∷ []
between_dots (c ∷ cs) = if c == byte "." then [] ∷ between_dots cs
    else with_first c (between_dots cs)

-- Whether a word is the name of a module: ConIds joined by dots.
unfoldable pub is_module_name : List ℕ → Bool
is_module_name word = list_all is_con_id (between_dots word)

-- What stands before and after each dot of a text.
abbrev pub around_dots : List ℕ → List (List ℕ × List ℕ)
around_dots [] = []
around_dots (c ∷ cs) =
    let later = map (λ parts. (c ∷ parts.0, parts.1)) (around_dots cs) in
    if c == byte "." then ([], cs) ∷ later else later

-- The parts of a qualified word: ConIds joined by dots and, after one more dot, a VarId, a ConId or
-- an operator.
unfoldable pub qualified_parts : List ℕ → Option (List ℕ × List ℕ)
qualified_parts word =
    find (λ parts. is_module_name parts.0
    && (is_var_id parts.1 || (is_con_id parts.1 || is_operator parts.1))) (around_dots word)

-- ---- numbers

-- The number that one or more digits of a base write.
unfoldable pub digits_value : ℕ → List ℕ → Option ℕ
digits_value base word = if is_run (λ c. is_digit c base) word
    then Some (fold (λ n c. n * base + digit_value c) 0 word) else None

-- The number of `0x`, `0o` or `0b` and then digits of that base.
unfoldable pub based_number : List ℕ → Option ℕ
based_number word =
    let base_of = entry ((codes "0x", 16) ∷ (codes "0o", 8) ∷ (codes "0b", 2) ∷ []) in
    option_and_then (λ base. digits_value base (drop 2 word)) (base_of (take 2 word))

-- Whether these characters go on with a decimal number: another digit, or a dot and a digit. The
-- longest number has no digit after it, and before a dot and a digit there is none.
abbrev pub goes_on_with_number : List ℕ → Bool
goes_on_with_number [] = false
goes_on_with_number (c ∷ cs) = is_ascii_digit c || (c == byte "." && begins_with is_ascii_digit cs)

-- The number of decimal digits, unless what follows goes on with the number.
unfoldable pub decimal_number : List ℕ → List ℕ → Option ℕ
decimal_number word next = if goes_on_with_number next then None else digits_value 10 word

-- ---- comments

-- Whether a word is a line comment: dashes that are a whole operator, and then anything but a
-- line's end.
unfoldable pub is_line_comment : List ℕ → Bool
is_line_comment word =
    let dashes = prefix_len is_dash word in
    nat_le 2 dashes && (not (begins_with is_symbol (drop dashes word))
    && not (list_any (λ c. c == byte "\n") word))

-- Whether the characters close so many open comments, and the last two of them close the first.
unfoldable pub closes : ℕ → List ℕ → Bool
closes zero [] = true
closes zero (c ∷ cs) = false
closes (suc depth) [] = false
closes (suc depth) (c ∷ []) = false
closes (suc depth) (c ∷ d ∷ cs) =
    if bytes_eq (c ∷ d ∷ []) (codes "{-") then closes (suc (suc depth)) cs
    else if bytes_eq (c ∷ d ∷ []) (codes "-}") then closes depth cs
    else closes (suc depth) (d ∷ cs)

-- Whether a word is a nested comment: `{-`, and then what closes it.
unfoldable pub is_nested_comment : List ℕ → Bool
is_nested_comment word = bytes_eq (take 2 word) (codes "{-") && closes 1 (drop 2 word)
