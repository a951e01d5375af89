-- The definition of tokens at short texts, computed.
use Rattle.std.proofs.Common.{◌≡◌, ℕ, pos, List, [], ◌∷◌, None, Some, Result, Ok, Err, map, refl}
use Prim.Native.String.{String as Text}
use Rattle.std.specs.Char.{encode_utf8}
use Rattle.std.specs.Prelude.{codes}
use Rattle.std.specs.Str.{chars, is_utf8}
use Rattle.cu_lex.specs.declared.token.Keyword.TheVariants as keyword
use Rattle.cu_lex.specs.declared.token.Mark.TheVariants as mark
use Rattle.cu_lex.specs.declared.token.ReservedOperator.TheVariants as reserved
use Rattle.cu_lex.specs.Decoding.{begins_text, begun_up_to}
use Rattle.cu_lex.specs.Kind.{Kind, Spelling}
use Rattle.cu_lex.specs.Kind.Kind.{VarId, ConId, VarOp, Keyword, Reserved, Mark, Int, Char, String}
use Rattle.cu_lex.specs.Literals.{short_escape, numeric_escape, item_of, items_between}
use Rattle.cu_lex.specs.Located.{Position, located_from}
use Rattle.cu_lex.specs.Munch.{longest_after, cut_within}
use Rattle.cu_lex.specs.Pieces.{piece, special_of, spelled, name_kind, word_kind}
use Rattle.cu_lex.specs.Tokens.{Lexeme, Fault, tokens}
use Rattle.cu_lex.specs.Tokens.Fault.{NotUtf8, BadToken, LiteralRange}
use Rattle.cu_lex.specs.Words.{is_separator, is_name_character, is_symbol, keyword_of, reserved_of, mark_of, is_var_id, is_con_id, is_operator, is_module_name, qualified_parts, digits_value, based_number, decimal_number, is_line_comment, closes, is_nested_comment}

abbrev place : ℕ → ℕ → Position
place l c = record { line = l; column = c }

abbrev at : ℕ → ℕ → Kind → Lexeme
at l c kind = record { what = kind; at = place l c }

abbrev plain : Text → Spelling
plain word = spelled None (codes word)

abbrev after : Text → Text → Spelling
after outer word = spelled (Some (codes outer)) (codes word)

-- Texts, and their tokens.
abbrev texts : List (Text × Result (List Lexeme) Fault)
texts =
    -- a prime goes on with a name, and dashes begin a comment
    ("x'--y", Ok (at 1 1 (VarId (plain "x'")) ∷ []))
    -- the longest operator
    ∷ ("+--y", Ok (at 1 1 (VarOp (plain "+--")) ∷ at 1 4 (VarId (plain "y")) ∷ []))
    -- a comment begins with dashes alone
    ∷ ("-->x", Ok (at 1 1 (VarOp (plain "-->")) ∷ at 1 4 (VarId (plain "x")) ∷ []))
    -- a qualified name, and what follows its whole run
    ∷ ("A.B.x.y", Ok (at 1 1 (VarId (after "A.B" "x")) ∷ at 1 6 (VarOp (plain ".")) ∷ at 1 7 (VarId (plain "y")) ∷ []))
    -- no qualified name ends in a keyword
    ∷ ("A.of", Ok (at 1 1 (ConId (plain "A")) ∷ at 1 2 (VarOp (plain ".")) ∷ at 1 3 (Keyword keyword.Of) ∷ []))
    -- no qualified operator is reserved
    ∷ ("A.=", Ok (at 1 1 (ConId (plain "A")) ∷ at 1 2 (VarOp (plain ".=")) ∷ []))
    -- or begins a comment
    ∷ ("A.--", Ok (at 1 1 (ConId (plain "A")) ∷ at 1 2 (VarOp (plain ".--")) ∷ []))
    -- a qualified dot
    ∷ ("A..b", Ok (at 1 1 (VarOp (after "A" ".")) ∷ at 1 4 (VarId (plain "b")) ∷ []))
    -- three dots are one operator
    ∷ ("A...b", Ok (at 1 1 (ConId (plain "A")) ∷ at 1 2 (VarOp (plain "...")) ∷ at 1 5 (VarId (plain "b")) ∷ []))
    -- one backslash is reserved
    ∷ ("\\\\ \\", Ok (at 1 1 (VarOp (plain "\\\\")) ∷ at 1 4 (Reserved reserved.Backslash) ∷ []))
    -- underscores before a small letter
    ∷ ("__a __ _A _1", Ok (at 1 1 (VarId (plain "__a")) ∷ at 1 5 (Mark mark.Underscore) ∷ at 1 6 (Mark mark.Underscore) ∷ at 1 8 (Mark mark.Underscore) ∷ at 1 9 (ConId (plain "A")) ∷ at 1 11 (Mark mark.Underscore) ∷ at 1 12 (Int (pos 1)) ∷ []))
    -- keywords go on as names
    ∷ ("if if' iff", Ok (at 1 1 (Keyword keyword.If) ∷ at 1 4 (VarId (plain "if'")) ∷ at 1 8 (VarId (plain "iff")) ∷ []))
    -- names with a meaning of their own
    ∷ ("qualified as - A.as", Ok (at 1 1 (VarId (plain "qualified")) ∷ at 1 11 (VarId (plain "as")) ∷ at 1 14 (VarOp (plain "-")) ∷ at 1 16 (VarId (after "A" "as")) ∷ []))
    -- a number with a dot and a digit is none
    ∷ ("a 1.5", Err (BadToken (place 1 3)))
    -- a number before dots
    ∷ ("1..2", Ok (at 1 1 (Int (pos 1)) ∷ at 1 2 (Reserved reserved.DotDot) ∷ at 1 4 (Int (pos 2)) ∷ []))
    -- a number before a name
    ∷ ("0X1", Ok (at 1 1 (Int (pos 0)) ∷ at 1 2 (ConId (plain "X1")) ∷ []))
    -- digits of a base
    ∷ ("0x1F 0o17 0b102", Ok (at 1 1 (Int (pos 31)) ∷ at 1 6 (Int (pos 15)) ∷ at 1 11 (Int (pos 2)) ∷ at 1 15 (Int (pos 2)) ∷ []))
    -- a base without digits
    ∷ ("0xg", Ok (at 1 1 (Int (pos 0)) ∷ at 1 2 (VarId (plain "xg")) ∷ []))
    -- the greatest number
    ∷ ("170141183460469231731687303715884105727", Ok (at 1 1 (Int (pos 170141183460469231731687303715884105727)) ∷ []))
    -- one more
    ∷ (" 170141183460469231731687303715884105728", Err (LiteralRange (place 1 2)))
    -- escapes in literals
    ∷ ("'\\'' \"a\\n\\x41\\66\\&7\"", Ok (at 1 1 (Char 39) ∷ at 1 6 (String (97 ∷ 10 ∷ 65 ∷ 66 ∷ 55 ∷ [])) ∷ []))
    -- a literal that is not closed
    ∷ ("\"ab", Err (BadToken (place 1 1)))
    -- two characters
    ∷ ("'ab'", Err (BadToken (place 1 1)))
    -- an escape that is no scalar value
    ∷ ("\"ab\\xD800\"", Err (LiteralRange (place 1 4)))
    -- the same, where the literal is not closed
    ∷ ("\"ab\\xD800", Err (BadToken (place 1 1)))
    -- a control in a literal
    ∷ ("\"a\tb\"", Err (BadToken (place 1 1)))
    -- comments inside comments
    ∷ ("{- {- -} x -}y", Ok (at 1 14 (VarId (plain "y")) ∷ []))
    -- a comment that is not closed
    ∷ ("a {- {- -}", Err (BadToken (place 1 3)))
    -- a comment of two marks
    ∷ ("{--}y", Ok (at 1 5 (VarId (plain "y")) ∷ []))
    -- lines and tabs
    ∷ ("\ta\n  b\tc", Ok (at 1 9 (VarId (plain "a")) ∷ at 2 3 (VarId (plain "b")) ∷ at 2 9 (VarId (plain "c")) ∷ []))
    ∷ []

texts_hold : map (λ row. tokens (codes row.0)) texts ≡ map (λ row. row.1) texts
unfolding tokens is_separator is_name_character is_symbol keyword_of reserved_of mark_of is_var_id is_con_id is_operator is_module_name qualified_parts digits_value based_number decimal_number is_line_comment closes is_nested_comment short_escape numeric_escape item_of items_between special_of name_kind word_kind begins_text begun_up_to located_from longest_after cut_within piece chars is_utf8 encode_utf8
texts_hold = refl

-- Bytes, and what they are.
abbrev bytes : List (List ℕ × Result (List Lexeme) Fault)
bytes =
    -- a byte order mark takes no place
    (0xEF ∷ 0xBB ∷ 0xBF ∷ 0x61 ∷ [], Ok (at 1 1 (VarId (plain "a")) ∷ []))
    -- no text has this byte
    ∷ (0x61 ∷ 0xFF ∷ [], Err (NotUtf8 1))
    -- or this one after 0xE0
    ∷ (0xE0 ∷ 0x80 ∷ [], Err (NotUtf8 1))
    -- or a surrogate
    ∷ (0xED ∷ 0xA0 ∷ 0x80 ∷ [], Err (NotUtf8 1))
    -- a text that ends inside a character
    ∷ (0x61 ∷ 0xE1 ∷ 0x80 ∷ [], Err (NotUtf8 3))
    ∷ []

bytes_hold : map (λ row. tokens row.0) bytes ≡ map (λ row. row.1) bytes
unfolding tokens is_separator is_name_character is_symbol keyword_of reserved_of mark_of is_var_id is_con_id is_operator is_module_name qualified_parts digits_value based_number decimal_number is_line_comment closes is_nested_comment short_escape numeric_escape item_of items_between special_of name_kind word_kind begins_text begun_up_to located_from longest_after cut_within piece chars is_utf8 encode_utf8
bytes_hold = refl
