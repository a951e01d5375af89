-- What the answers of `block` stand for.
use Rattle.std.specs.Prelude.{◌≡◌, ℕ, Bool, List, Option, None, Some, Ok, Err, slice_get}
use Rattle.cu_names.specs.declared.place.Place.{Place}
use Rattle.cu_lex.specs.declared.token.LayoutMark.{LayoutMark}
use Rattle.cu_lex.specs.declared.token.Token.{Token}
use Rattle.cu_lex.specs.declared.token.TokenKind.TheVariants as token
use Rattle.cu_lex.specs.Kind.Kind.{Layout}
use Rattle.cu_lex.specs.Located.{Position, first_position}
use Rattle.cu_lex.specs.Tokens.{Lexeme}
use Rattle.cu_layout.specs.declared.fault.TooDeep.{TooDeep}
use Rattle.cu_layout.specs.declared.fault.TooDeep.TheVariants.{At, NoMemory}
use Rattle.cu_layout.specs.Blocks.{TokenView, block}
use Rattle.cu_layout.specs.Forms.{sight_of, token_sight}

-- ---- tokens of a text

-- The place of a token, or where a text without tokens begins.
abbrev pub position_at : Option Lexeme → Position
position_at None = first_position
position_at (Some t) = t.at

-- The token of the definition for a mark, at the place of a token.
abbrev pub emitted_lexeme : Option Lexeme → LayoutMark → Lexeme
emitted_lexeme t mark = record { what = Layout mark; at = position_at t }

-- Layout on the tokens of a text.
abbrev pub lexeme_view : TokenView Lexeme
lexeme_view = record { sight = sight_of; emitted = emitted_lexeme }

-- ---- tokens of the lexer's

-- The place of a token, or one that names no token where there is none.
abbrev pub place_at : Option Token → Place
place_at None = record { «module» = record { 0 = 0 }; line = 1; column = 1 }
place_at (Some t) = t.place

-- The lexer's token for a mark, at the place of a token.
abbrev pub emitted_token : Option Token → LayoutMark → Token
emitted_token t mark = record { kind = token.Layout mark; place = place_at t }

-- Layout on the lexer's tokens.
abbrev pub token_view : TokenView Token
token_view = record { sight = token_sight; emitted = emitted_token }

-- The tokens of an answer are those of the text with what the layout rules put in.
abbrev pub Gives : Bool → List Token → List Token → Type 0
Gives whole text laid = block token_view whole text ≡ Ok laid

-- The stack comes to an entry too many at a token of the text, which is told by its number from 0,
-- and the answer tells the token's place.
pub record IsTooDeepAt (whole : Bool) (text : List Token) (place : Place) : Type 0 where
  pub number : ℕ
  pub overflows : block token_view whole text ≡ Err number
  pub t : Token
  pub stands : slice_get text number ≡ Some t
  pub told : place ≡ t.place

-- The fault that an answer tells is the text's own. An allocation failure says nothing.
abbrev pub Tells : Bool → List Token → TooDeep → Type 0
Tells whole text (At place) = IsTooDeepAt whole text place
Tells whole text NoMemory = Unit {0}
