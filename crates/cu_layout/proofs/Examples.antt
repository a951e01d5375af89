-- The layout rules at short texts, computed.
use Rattle.std.proofs.Common.{◌≡◌, ℕ, zero, suc, Bool, true, false, List, [], ◌∷◌, Option, None, Some, Result, Ok, Err, map, refl}
use Prim.Native.String.{String as Text}
use Rattle.std.specs.Char.{encode_utf8}
use Rattle.std.specs.Prelude.{codes}
use Rattle.std.specs.Str.{chars, is_utf8}
use Rattle.cu_lex.specs.declared.token.LayoutMark.TheVariants as layout
use Rattle.cu_lex.specs.declared.token.Mark.TheVariants as mark
use Rattle.cu_lex.specs.Decoding.{begins_text, begun_up_to}
use Rattle.cu_lex.specs.Kind.{Kind}
use Rattle.cu_lex.specs.Kind.Kind.{Mark, Layout}
use Rattle.cu_lex.specs.Literals.{short_escape, numeric_escape, item_of, items_between}
use Rattle.cu_lex.specs.Located.{located_from}
use Rattle.cu_lex.specs.Munch.{longest_after, cut_within}
use Rattle.cu_lex.specs.Pieces.{piece, special_of, name_kind, word_kind}
use Rattle.cu_lex.specs.Tokens.{Lexeme, Fault, tokens}
use Rattle.cu_lex.specs.Words.{is_separator, is_name_character, is_symbol, keyword_of, reserved_of, mark_of, is_var_id, is_con_id, is_operator, is_module_name, qualified_parts, digits_value, based_number, decimal_number, is_line_comment, closes, is_nested_comment}
use Rattle.cu_layout.specs.declared.form.Form.TheVariants as form
use Rattle.cu_layout.specs.Blocks.{block, layout_marks, marks_from}
use Rattle.cu_layout.specs.Forms.{Sight}
use Rattle.cu_layout.specs.Reading.{lexeme_view}

-- A kind of token, written as in a text without layout.
written : Kind → Kind
written (Layout layout.Open) = Mark mark.OpenBrace
written (Layout layout.Close) = Mark mark.CloseBrace
written (Layout layout.Separator) = Mark mark.Semicolon
written kind = kind

kinds : Result (List Lexeme) Fault → List Kind
kinds (Ok found) = map (λ t. t.what) found
kinds (Err fault) = []

laid_kinds : Result (List Lexeme) ℕ → List Kind
laid_kinds (Ok found) = map (λ t. written t.what) found
laid_kinds (Err number) = []

kinds_with_layout : Bool → Result (List Lexeme) Fault → List Kind
kinds_with_layout whole (Ok found) = laid_kinds (block lexeme_view whole found)
kinds_with_layout whole (Err fault) = []

-- Texts, whether each is a whole module, and what they are with layout written out.
abbrev first_rows : List (Bool × Text × Text)
first_rows =
    -- a block before `in`
    (false, "let x = 1 in x", "let { x = 1 } in x")
    -- a comma that belongs outside a block
    ∷ (false, "[y | let y = 1, y]", "[y | let { y = 1 }, y]")
    -- a comma between variables
    ∷ (false, "(let a, b free in a, 1)", "(let { a, b free } in a, 1)")
    -- `where` on a block's own column
    ∷ (true, "f = case x of\n  A -> y\n  where y = 1", "{ f = case x of { A -> y } where { y = 1 } }")
    ∷ []

first_rows_hold : map (λ row. kinds_with_layout row.0 (tokens (codes row.1))) first_rows ≡ map (λ row. kinds (tokens (codes row.2))) first_rows
unfolding kinds_with_layout laid_kinds written kinds marks_from tokens is_separator is_name_character is_symbol keyword_of reserved_of mark_of is_var_id is_con_id is_operator is_module_name qualified_parts digits_value based_number decimal_number is_line_comment closes is_nested_comment short_escape numeric_escape item_of items_between special_of name_kind word_kind begins_text begun_up_to located_from longest_after cut_within piece chars is_utf8 encode_utf8
first_rows_hold = refl

abbrev other_rows : List (Bool × Text × Text)
other_rows =
    -- `then` and `else` there
    (true, "f = let\n  x = if a\n  then b\n  else c\n in x", "{ f = let { x = if a then b else c } in x }")
    -- a block inside a brace of the text
    ∷ (false, "case x of { A -> let y = 1 }", "case x of { A -> let { y = 1 } }")
    -- a due block that is not further right
    ∷ (true, "f = x where\ng = 1", "{ f = x where { }; g = 1 }")
    -- blocks at the end
    ∷ (false, "let f x = case x of A -> let y = 1", "let { f x = case x of { A -> let { y = 1 } } }")
    ∷ []

other_rows_hold : map (λ row. kinds_with_layout row.0 (tokens (codes row.1))) other_rows ≡ map (λ row. kinds (tokens (codes row.2))) other_rows
unfolding kinds_with_layout laid_kinds written kinds marks_from tokens is_separator is_name_character is_symbol keyword_of reserved_of mark_of is_var_id is_con_id is_operator is_module_name qualified_parts digits_value based_number decimal_number is_line_comment closes is_nested_comment short_escape numeric_escape item_of items_between special_of name_kind word_kind begins_text begun_up_to located_from longest_after cut_within piece chars is_utf8 encode_utf8
other_rows_hold = refl

-- So many opening parentheses in one line.
parens : ℕ → ℕ → List Sight
parens column zero = []
parens column (suc n) = record { what = form.Mark mark.OpenParen; at = record { line = 1; column = column } } ∷ parens (suc column) n

is_too_deep : {X : Type 0} → Result X ℕ → Option ℕ
is_too_deep (Ok x) = None
is_too_deep (Err number) = Some number

-- The token numbered 256, the 257th, is one too many.
too_deep : (is_too_deep (layout_marks false (parens 1 257)) ≡ Some 256) × (is_too_deep (layout_marks false (parens 1 256)) ≡ None)
unfolding is_too_deep parens marks_from
too_deep = (refl, refl)
