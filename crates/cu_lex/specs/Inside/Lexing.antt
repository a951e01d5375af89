-- One piece of a text, as the lexer finds it.
use Rattle.std.specs.Prelude.{◌≡◌, List, ◌∷◌, Option, None, Some, Result, Ok, Err}
use Rattle.cu_names.specs.declared.names.NameId.{NameId}
use Rattle.cu_lex.specs.declared.cursor.Cursor.{Cursor}
use Rattle.cu_lex.specs.declared.fault.LexFault.{LexFault}
use Rattle.cu_lex.specs.declared.fault.LexFault.TheVariants as answer
use Rattle.cu_lex.specs.declared.token.Name.{Name}
use Rattle.cu_names.specs.declared.place.Place.{Place}
use Rattle.cu_lex.specs.declared.token.Token.{Token as LexerToken}
use Rattle.cu_lex.specs.declared.token.Mark.{Mark}
use Rattle.cu_lex.specs.declared.token.TokenKind.{TokenKind}
use Rattle.cu_lex.specs.declared.token.TokenKind.TheVariants as token
use Rattle.cu_lex.specs.Located.{Located}
use Rattle.cu_lex.specs.Munch.{cut_at, longest}
use Rattle.cu_lex.specs.Pieces.{Piece, piece}
use Rattle.cu_lex.specs.Pieces.Piece.{Blank, Token, OutOfRange}
use Rattle.cu_lex.specs.Reading.{kind_of, position_of, spelling_of, HasKind, HasName}
use Rattle.cu_lex.specs.Inside.Scanning.{left}
use Rattle.std.specs.Prelude.{[], ℕ, not, true, false, Bool, ◌==◌, ◌++◌}
use Rattle.std.specs.Option.{option_and_then, option_map}
use Rattle.cu_lex.specs.declared.word.Qualified.{Qualified}
use Rattle.cu_lex.specs.declared.word.WordKind.{WordKind}
use Rattle.cu_lex.specs.declared.word.WordKind.TheVariants as kind
use Rattle.cu_lex.specs.Inside.Chains.{BeginsAt}
use Rattle.cu_lex.specs.Kind.{Kind}
use Rattle.cu_lex.specs.Kind.Kind.{VarId, ConId, VarOp, ConOp, Keyword, Reserved}
use Rattle.cu_lex.specs.Located.{characters}
use Rattle.cu_lex.specs.Munch.{Cut}
use Rattle.cu_lex.specs.Pieces.{spelled}
use Rattle.cu_lex.specs.Inside.Scanning.{first_of, later, run, skip, IsWord}
use Rattle.cu_lex.specs.Words.{begins_with, is_module_name, is_separator, mark_of}
use Rattle.std.specs.Char.{is_ascii_digit, is_ascii_uppercase}

-- The piece that a kind of token stands for, and a blank where there is none.
abbrev pub piece_of : List (List ℕ) → Option TokenKind → Piece
piece_of names None = Blank
piece_of names (Some kind) = Token (kind_of names kind)

-- A table has the names of a token, if there is one.
abbrev pub HasNames : List (List ℕ) → Option TokenKind → Type 0
HasNames names None = Unit {0}
HasNames names (Some kind) = HasKind names kind

-- The longest piece at the start of a text is this one, and this end follows it.
pub record IsPiece (text : List Located) (what : Piece) (end : List Located) : Type 0 where
  pub prefix : List Located
  pub cut : longest piece text ≡ Some (cut_at prefix end what)

-- The piece that was found is the longest at the start of a text, with what follows it.
pub record FindsPiece (names : List (List ℕ)) (text : List Located)
    (found : Option TokenKind × Cursor) : Type 0 where
  pub piece : IsPiece text (piece_of names found.0) (left found.1)
  pub known : HasNames names found.0

-- The fault at the start of a text is right: no piece begins there, or a literal out of range. An
-- allocation failure says nothing, and other faults don't occur.
abbrev pub FailsAt : NameId → List Located → LexFault → Type 0
FailsAt owner text (answer.BadToken place) = (place.«module» ≡ owner) × (longest piece text ≡ None)
    × ((first : Located) (rest : List Located) → text ≡ first ∷ rest → position_of place ≡ first.at)
FailsAt owner text (answer.LiteralRange place) =
    (place.«module» ≡ owner) × (end : List Located)
    × IsPiece text (OutOfRange (position_of place)) end
FailsAt owner text answer.NoMemory = Unit {0}
FailsAt owner text answer.SourceTooBig = ⊥
FailsAt owner text (answer.NotUtf8 offset) = ⊥

-- What one step of the lexer gives at the start of a text is right: a piece, or a fault.
abbrev pub Lexes : NameId → List (List ℕ) → List Located
    → Result (Option TokenKind × Cursor) LexFault → Type 0
Lexes owner names text (Ok found) = FindsPiece names text found
Lexes owner names text (Err fault) = FailsAt owner text fault

-- Whether a piece is a token that is a mark.
abbrev pub is_mark : Option TokenKind → Bool
is_mark (Some (token.Mark mark)) = true
is_mark _ = false

-- The mark that the first character is, if it is one.
abbrev pub first_mark : List Located → Option Mark
first_mark text = option_and_then (λ c. mark_of (c ∷ [])) (first_of text)

-- The kind of a token that is a word.
abbrev pub named : Option (List ℕ) → WordKind → List ℕ → Kind
named q kind.VarId w = VarId (spelled q w)
named q kind.ConId w = ConId (spelled q w)
named q kind.VarOp w = VarOp (spelled q w)
named q kind.ConOp w = ConOp (spelled q w)
named q (kind.Keyword k) w = Keyword k
named q (kind.Reserved k) w = Reserved k
named q kind.Dashes w = VarOp (spelled q w)

-- Whether a character is none that ends a line: any but the line feed.
abbrev pub is_inline : ℕ → Bool
is_inline c = not (c == 10)

-- The cut of a text at a word, which is a token, or with two or more dashes a comment up to its
-- line's end.
abbrev pub word_cut : WordKind → Option (List ℕ) → List ℕ → List Located → List Located → Cut Piece
word_cut kind.Dashes q w prefix end =
    cut_at (prefix ++ run is_inline end) (skip is_inline end) Blank
word_cut kind.VarId q w prefix end = cut_at prefix end (Token (named q kind.VarId w))
word_cut kind.ConId q w prefix end = cut_at prefix end (Token (named q kind.ConId w))
word_cut kind.VarOp q w prefix end = cut_at prefix end (Token (named q kind.VarOp w))
word_cut kind.ConOp q w prefix end = cut_at prefix end (Token (named q kind.ConOp w))
word_cut (kind.Keyword k) q w prefix end = cut_at prefix end (Token (Keyword k))
word_cut (kind.Reserved k) q w prefix end = cut_at prefix end (Token (Reserved k))

-- This stands before a dot of a text, a qualifier, where there is a dot.
abbrev pub IsOuter : List Located → Option Cursor → Option (List Located) → Type 0
IsOuter text None None = Unit {0}
IsOuter text (Some dot) (Some outer) = (outer ++ left dot ≡ text)
    × (is_module_name (characters outer) ≡ true) × (first_of (left dot) ≡ Some 46)
IsOuter text None (Some outer) = ⊥
IsOuter text (Some dot) None = ⊥

-- The qualified word that was found is the longest piece of a text.
pub record IsNamed (text : List Located) (found : Qualified) : Type 0 where
  pub begins : BeginsAt text (left found.base) found.dot
  pub word : IsWord (left found.base) found.word.kind (left found.word.end)
  pub outer : Option (List Located)
  pub is_outer : IsOuter text found.dot outer
  pub prefix : List Located
  pub cut : longest piece text
      ≡ Some (word_cut found.word.kind (option_map characters outer) (characters word.prefix) prefix
      (left found.word.end))

-- A name's texts are those of the word that was found.
abbrev pub IsSpelled : List (List ℕ) → List Located → Qualified → Name → Type 0
IsSpelled names text found name = (n : IsNamed text found)
    → (spelling_of names name ≡ spelled (option_map characters n.outer) (characters n.word.prefix))
    × HasName names name

-- A text doesn't begin with a separator, a capital letter, a digit or a quote.
pub record IsPlain (text : List Located) : Type 0 where
  pub separator : begins_with is_separator (characters text) ≡ false
  pub capital : begins_with is_ascii_uppercase (characters text) ≡ false
  pub digit : begins_with is_ascii_digit (characters text) ≡ false
  pub quote : begins_with (λ c. c == 39) (characters text) ≡ false
  pub quotes : begins_with (λ c. c == 34) (characters text) ≡ false

-- A text begins with a brace and a dash, with which a comment begins.
abbrev pub OpensComment : List Located → Type 0
OpensComment text = (first_of text ≡ Some 123) × (first_of (later text) ≡ Some 45)

-- A list of tokens with one more at its end, of this kind at a place, if there is one.
abbrev pub with_token : List LexerToken → Option TokenKind → Place → List LexerToken
with_token tokens None place = tokens
with_token tokens (Some kind) place = tokens ++ record { kind = kind; place = place } ∷ []
