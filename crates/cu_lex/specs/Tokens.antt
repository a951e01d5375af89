-- The tokens of a module's text.
use Rattle.std.specs.Prelude.{ℕ, nat_lt, List, [], ◌∷◌, length, Result, Ok, Err, if◌then◌else◌}
use Rattle.std.specs.Result.{result_map_both}
use Rattle.std.specs.Str.{chars, is_utf8}
use Rattle.cu_lex.specs.Decoding.{fault_offset}
use Rattle.cu_lex.specs.Kind.{Kind}
use Rattle.cu_lex.specs.Located.{Position, Located, located}
use Rattle.cu_lex.specs.Munch.{Placed, cut_all}
use Rattle.cu_lex.specs.Pieces.{Piece, piece}
use Rattle.cu_lex.specs.Pieces.Piece.{Blank, Token, OutOfRange}

-- A token of a text: its kind, at the place of its first character.
abbrev pub Lexeme : Type 0
Lexeme = Placed Kind

-- Why a text has no tokens.
pub data Fault : Type 0 where
  SourceTooBig : Fault
  NotUtf8 : ℕ → Fault
  BadToken : Position → Fault
  LiteralRange : Position → Fault

-- The most bytes of a text.
abbrev pub max_text_bytes : ℕ
max_text_bytes = 16777216

-- What a piece adds to the tokens after it: nothing, a token, or the fault that it is out of range.
abbrev pub with_lexeme : Piece → Position → Result (List Lexeme) Fault → Result (List Lexeme) Fault
with_lexeme Blank p more = more
with_lexeme (Token kind) p more =
    result_map_both (λ lexemes. record { what = kind; at = p } ∷ lexemes) (λ fault. fault) more
with_lexeme (OutOfRange place) p more = Err (LiteralRange place)

-- The tokens among the pieces of a text, or its first fault: a literal out of range, or a place
-- where no piece begins.
abbrev pub lexemes_of : List (Placed Piece) → List Located → Result (List Lexeme) Fault
lexemes_of [] [] = Ok []
lexemes_of [] (c ∷ left) = Err (BadToken c.at)
lexemes_of (p ∷ pieces) left = with_lexeme p.what p.at (lexemes_of pieces left)

-- The tokens of characters in their places.
abbrev pub lexemes : List Located → Result (List Lexeme) Fault
lexemes text = let cut = cut_all piece text in lexemes_of cut.pieces cut.left

-- The tokens of a text given as bytes, or its first fault.
unfoldable pub tokens : List ℕ → Result (List Lexeme) Fault
tokens bytes =
    if nat_lt max_text_bytes (length bytes) then Err SourceTooBig
    else if is_utf8 bytes then lexemes (located (chars bytes))
    else Err (NotUtf8 (fault_offset bytes))
