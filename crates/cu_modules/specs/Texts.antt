-- What the text of a module is read as.
use Rattle.std.specs.Prelude.{◌≡◌, ℕ, Bool, true, false, List, Option, None, Some, Result, Ok, Err, slice_get}
use Rattle.std.specs.Str.{bytes_eq}
use Rattle.cu_layout.specs.Blocks.{block}
use Rattle.cu_layout.specs.Reading.{lexeme_view}
use Rattle.cu_lex.specs.Located.{Position}
use Rattle.cu_lex.specs.Tokens as tokens
use Rattle.cu_lex.specs.Tokens.{Lexeme}
use Rattle.cu_syntax.specs.Parsing as parsing
use Rattle.cu_syntax.specs.Parsing.{ModuleRead}
use Rattle.cu_syntax.specs.Syntax.{Header, Module}

-- Why a text isn't a module of the name under which it was looked for.
pub data TextFault : Type 0 where
  -- a fault of the text's tokens
  Tokens : tokens.Fault → TextFault
  -- the token at which blocks nest too deep
  TooDeep : Position → TextFault
  -- a fault of the text's syntax
  Syntax : parsing.Fault → TextFault
  -- the header has another name
  HeaderName : TextFault

-- whether a header lets a module have a name
abbrev pub allows : Option Header → List ℕ → Bool
allows None name = true
allows (Some header) name = bytes_eq header.name.text name

-- A text's tokens with the braces and semicolons of its layout are these.
pub record HasLayout (text : List ℕ) (laid : List Lexeme) : Type 0 where
  pub found : List Lexeme
  pub has_tokens : tokens.tokens text ≡ Ok found
  pub has_layout : block lexeme_view true found ≡ Ok laid

-- what a text that was looked for under a name is read as
pub data IsRead (name text : List ℕ) : Result Module TextFault → Type 0 where
  no_tokens : (fault : tokens.Fault) → tokens.tokens text ≡ Err fault
      → IsRead name text (Err (Tokens fault))
  too_deep : (found : List Lexeme) (number : ℕ) (token : Lexeme) → tokens.tokens text ≡ Ok found
      → block lexeme_view true found ≡ Err number
      → slice_get found number ≡ Some token → IsRead name text (Err (TooDeep token.at))
  no_syntax : (laid : List Lexeme) (fault : parsing.Fault) → HasLayout text laid
      → ModuleRead laid (Err fault) → IsRead name text (Err (Syntax fault))
  other_name : (laid : List Lexeme) (syntax : Module) → HasLayout text laid
      → ModuleRead laid (Ok syntax) → allows syntax.header name ≡ false
      → IsRead name text (Err HeaderName)
  right : (laid : List Lexeme) (syntax : Module) → HasLayout text laid → ModuleRead laid (Ok syntax)
      → allows syntax.header name ≡ true
      → IsRead name text (Ok syntax)
