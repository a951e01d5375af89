-- What matching answers, over tokens with their names as texts.
use Rattle.std.specs.Prelude.{◌≡◌, ℕ, Bool, false, List, [], ◌∷◌, Some, length, slice_get, zero, suc}
use Rattle.std.specs.Option.{option_map_or}
use Rattle.cu_lex.specs.Tokens.{Lexeme}
use Rattle.cu_peg.specs.Classes.{has}
use Rattle.cu_peg.specs.declared.class.Class.{Class}
use Rattle.cu_peg.specs.declared.row.Row.{Row}
use Rattle.cu_peg.specs.Matches.{HasTree}
use Rattle.cu_peg.specs.Parse.{ParseTree, tree_over}

-- this many numbers, counted up from n
abbrev pub numbers : ℕ → ℕ → List ℕ
numbers n zero = []
numbers n (suc k) = n ∷ numbers (suc n) k

-- whether a class has the token of a number
abbrev pub has_at : List Lexeme → Class → ℕ → Bool
has_at text c n = option_map_or (has c) (slice_get text n) false

-- A tree over the numbers of a text's tokens is the one that the numbers have, and stands for the
-- one that the text has.
pub record IsTreeOf (rows : List Row) (start : ℕ) (text : List Lexeme)
    (found : ParseTree ℕ) : Type 0 where
  pub numbered : HasTree rows (has_at text) start (numbers 0 (length text)) found
  pub tree : ParseTree Lexeme
  pub stands : tree_over text found ≡ Some tree
  pub whole : HasTree rows has start text tree

-- The whole text has no tree.
abbrev pub HasNoTree : List Row → ℕ → List Lexeme → Type 0
HasNoTree rows start text = (tree : ParseTree Lexeme) → ¬ (HasTree rows has start text tree)
