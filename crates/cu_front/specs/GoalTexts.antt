-- What the text of a goal is read as: the goal, or the fault of its tokens, layout or syntax.
use Rattle.std.specs.Prelude.{◌≡◌, ℕ, false, List, Some, Result, Ok, Err, slice_get}
use Rattle.cu_layout.specs.Blocks.{block}
use Rattle.cu_layout.specs.Reading.{lexeme_view}
use Rattle.cu_lex.specs.Tokens as tokens
use Rattle.cu_lex.specs.Tokens.{Lexeme}
use Rattle.cu_syntax.specs.Parsing as parsing
use Rattle.cu_syntax.specs.Parsing.{GoalRead}
use Rattle.cu_syntax.specs.Syntax.{Goal}
use Rattle.cu_modules.specs.Texts.{Syntax, TextFault, Tokens, TooDeep}

-- what a text is read as, whose tokens and layout are right: the goal, or the fault of its syntax
abbrev pub read_as : Result Goal parsing.Fault → Result Goal TextFault
read_as (Ok goal) = Ok goal
read_as (Err fault) = Err (Syntax fault)

-- The text of a goal is read as the goal or as the fault that it has. Its layout has no block
-- around the whole.
pub data GoalIsRead (text : List ℕ) : Result Goal TextFault → Type 0 where
  no_tokens : (fault : tokens.Fault) → tokens.tokens text ≡ Err fault
      → GoalIsRead text (Err (Tokens fault))
  too_deep : (found : List Lexeme) (number : ℕ) (token : Lexeme) → tokens.tokens text ≡ Ok found
      → block lexeme_view false found ≡ Err number → slice_get found number ≡ Some token
      → GoalIsRead text (Err (TooDeep token.at))
  read : (found laid : List Lexeme) (outcome : Result Goal parsing.Fault)
      → tokens.tokens text ≡ Ok found → block lexeme_view false found ≡ Ok laid
      → GoalRead laid outcome → GoalIsRead text (read_as outcome)
