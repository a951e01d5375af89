-- Character and string literals (Curry Report, appendix on syntax).
use Rattle.std.specs.Prelude.{ℕ, ◌&&◌, ◌||◌, ◌==◌, List, [], ◌∷◌, codes, Option, None, Some, if◌then◌else◌}
use Rattle.std.specs.Char.{is_ascii_control}
use Rattle.std.specs.Option.{option_map, option_or}
use Rattle.std.specs.Str.{byte, bytes_eq}
use Rattle.cu_lex.specs.Located.{Located, characters}
use Rattle.cu_lex.specs.Munch.{Classes, Placed, cut_all}
use Rattle.cu_lex.specs.Words.{digits_value, entry}

-- The codes that letters and marks after a backslash stand for.
abbrev pub short_escapes : List (List ℕ × ℕ)
short_escapes =
    (codes "n", 0x0A) ∷ (codes "t", 0x09) ∷ (codes "r", 0x0D) ∷ (codes "a", 0x07)
    ∷ (codes "b", 0x08) ∷ (codes "f", 0x0C) ∷ (codes "v", 0x0B)
    ∷ (codes "\\", byte "\\") ∷ (codes "'", byte "'") ∷ (codes "\"", byte "\"") ∷ []

-- The code that a letter or a mark after a backslash stands for.
unfoldable pub short_escape : List ℕ → Option ℕ
short_escape = entry short_escapes

-- The code that digits after a backslash write: decimal ones, hexadecimal ones after `x`, octal
-- ones after `o`.
unfoldable pub numeric_escape : List ℕ → Option ℕ
numeric_escape [] = None
numeric_escape (c ∷ cs) = if c == byte "x" then digits_value 16 cs else if c == byte "o"
    then digits_value 8 cs else digits_value 10 (c ∷ cs)

-- What the characters after a backslash stand for: a code, or nothing, as `&` does.
abbrev pub escape : List ℕ → Option (Option ℕ)
escape word = if bytes_eq word (codes "&") then Some None
    else option_map Some (option_or (short_escape word) (numeric_escape word))

-- The items of a literal between such quotes: any character but the quote, the backslash and the
-- controls, and escapes.
unfoldable pub item_of : ℕ → List ℕ → Option (Option ℕ)
item_of quote [] = None
item_of quote (c ∷ []) = if c == quote || (c == byte "\\" || is_ascii_control c) then None
    else Some (Some c)
item_of quote (c ∷ d ∷ cs) = if c == byte "\\" then escape (d ∷ cs) else None

-- What a prefix of a text is as an item of a literal between such quotes: its code, or none. None
-- where it is no item.
abbrev pub item : ℕ → Classes (Option ℕ)
item quote prefix rest = item_of quote (characters prefix)

-- The items of a literal: after the quote that opens it they are the longest pieces, and what is
-- left then is the quote that closes it.
unfoldable pub items_between : ℕ → List Located → Option (List (Placed (Option ℕ)))
items_between quote [] = None
items_between quote (first ∷ text) =
    let cut = cut_all (item quote) text in
    if first.char == quote && bytes_eq (characters cut.left) (quote ∷ []) then Some cut.pieces
    else None
