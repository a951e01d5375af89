-- What the lexer's answers stand for.
use Rattle.std.specs.Int.{IsNonNegative}
use Rattle.std.specs.Prelude.{◌≡◌, ℕ, Bool, true, false, List, map, IfSome, Result, Ok, Err}
use Rattle.std.specs.Option.{option_map}
use Rattle.cu_names.specs.declared.place.Place.{Place}
use Rattle.cu_names.specs.declared.names.NameId.{NameId}
use Rattle.cu_names.specs.Texts.{text_of, IsKnown}
use Rattle.cu_lex.specs.declared.fault.LexFault.{LexFault}
use Rattle.cu_lex.specs.declared.fault.LexFault.TheVariants as answer
use Rattle.cu_lex.specs.declared.token.Name.{Name}
use Rattle.cu_lex.specs.declared.token.Token.{Token}
use Rattle.cu_lex.specs.declared.token.TokenKind.{TokenKind}
use Rattle.cu_lex.specs.declared.token.TokenKind.TheVariants as token
use Rattle.cu_lex.specs.Kind.{Kind, Spelling}
use Rattle.cu_lex.specs.Kind.Kind.{VarId, ConId, VarOp, ConOp, Keyword, Reserved, Mark, Int, Char, String, Layout}
use Rattle.cu_lex.specs.Located.{Position}
use Rattle.cu_lex.specs.Tokens.{Lexeme, Fault}
use Rattle.cu_lex.specs.Tokens.Fault.{SourceTooBig, NotUtf8, BadToken, LiteralRange}

-- A name, with the texts that its numbers stand for in a table of names.
abbrev pub spelling_of : List (List ℕ) → Name → Spelling
spelling_of names name = record {
  text = text_of names name.text;
  qualifier = option_map (text_of names) name.qualifier;
  base = text_of names name.base;
  special = name.special;
}

-- A token's kind, with its names as texts.
abbrev pub kind_of : List (List ℕ) → TokenKind → Kind
kind_of names (token.VarId name) = VarId (spelling_of names name)
kind_of names (token.ConId name) = ConId (spelling_of names name)
kind_of names (token.VarOp name) = VarOp (spelling_of names name)
kind_of names (token.ConOp name) = ConOp (spelling_of names name)
kind_of names (token.Keyword word) = Keyword word
kind_of names (token.Reserved word) = Reserved word
kind_of names (token.Mark mark) = Mark mark
kind_of names (token.Int n) = Int n
kind_of names (token.Char code) = Char code
kind_of names (token.String codes) = String codes
kind_of names (token.Layout mark) = Layout mark

-- The position that a place has in the text of its module.
abbrev pub position_of : Place → Position
position_of place = record { line = place.line; column = place.column }

-- What a token stands for, under a table of names.
abbrev pub lexeme_of : List (List ℕ) → Token → Lexeme
lexeme_of names t = record { what = kind_of names t.kind; at = position_of t.place }

-- The fault that an answer tells is the text's own, at a place of the module. An allocation failure
-- says nothing.
abbrev pub Tells : NameId → LexFault → Result (List Lexeme) Fault → Type 0
Tells owner answer.SourceTooBig outcome = outcome ≡ Err SourceTooBig
Tells owner (answer.NotUtf8 offset) outcome = outcome ≡ Err (NotUtf8 offset)
Tells owner (answer.BadToken place) outcome =
    (place.«module» ≡ owner) × (outcome ≡ Err (BadToken (position_of place)))
Tells owner (answer.LiteralRange place) outcome =
    (place.«module» ≡ owner) × (outcome ≡ Err (LiteralRange (position_of place)))
Tells owner answer.NoMemory outcome = Unit {0}

-- The tokens that an answer gives are the text's own, under a table of names.
abbrev pub Gives : List (List ℕ) → List Token → Result (List Lexeme) Fault → Type 0
Gives names found outcome = outcome ≡ Ok (map (lexeme_of names) found)

-- A table has the parts of a name.
abbrev pub HasName : List (List ℕ) → Name → Type 0
HasName names name = IsKnown names name.text × IfSome name.qualifier (IsKnown names)
    × IsKnown names name.base

-- A table has the names of a token of this kind.
abbrev pub HasKind : List (List ℕ) → TokenKind → Type 0
HasKind names (token.VarId name) = HasName names name
HasKind names (token.ConId name) = HasName names name
HasKind names (token.VarOp name) = HasName names name
HasKind names (token.ConOp name) = HasName names name
HasKind names kind = Unit {0}

-- The number of an Int token isn't negative.
abbrev pub HasNatural : TokenKind → Type 0
HasNatural (token.Int n) = IsNonNegative n
HasNatural kind = Unit {0}

-- A token of a module, whose names a table has. Its number, if it has one, isn't negative.
pub record IsTokenOf (owner : NameId) (names : List (List ℕ)) (t : Token) : Type 0 where
  pub owned : t.place.«module» ≡ owner
  pub known : HasKind names t.kind
  pub natural : HasNatural t.kind

-- Whether a token stands in the text itself, and wasn't put in by layout.
abbrev pub is_written : TokenKind → Bool
is_written (token.Layout mark) = false
is_written kind = true
