-- Which trees the grammar gives: a tree's parts are those that the rule of its symbol says. What is
-- looked at ahead leaves no part.
use Rattle.std.specs.Prelude.{ℕ, Bool, true, false, ◌&&◌, [], ◌∷◌, is_some, slice_get}
use Rattle.cu_lex.specs.Tokens.{Lexeme}
use Rattle.cu_peg.specs.Classes.{has}
use Rattle.cu_peg.specs.Parse.{ParseTree, ParseTrees, Leaf, Parts, Chosen, NoTree, MoreTrees}
use Rattle.cu_syntax.specs.declared.symbol.Symbol.{Symbol}
use Rattle.cu_syntax.specs.Table.{AtLeastOne, Ahead, Choice, Many, NotAhead, Optional, Rule, SeparatedBy, Sequence, Token, alternative, rule_of}

-- whether a rule is that of a token of this kind
abbrev pub is_token : Rule → Lexeme → Bool
is_token (Token c) x = has c x
is_token _ x = false

-- whether a rule is a choice with an alternative of this number
abbrev pub has_alternative : Rule → ℕ → Bool
has_alternative (Choice parts) n = is_some (slice_get parts n)
has_alternative _ n = false

abbrev mutual
  -- whether a tree is one that a symbol may have
  pub fits : Symbol → ParseTree Lexeme → Bool
  fits s (Leaf x) = is_token (rule_of s) x
  fits s (Parts trees) = have_parts (rule_of s) trees
  fits s (Chosen n tree) = has_alternative (rule_of s) n && fits (alternative s n) tree

  -- whether trees are the parts that a rule says
  pub have_parts : Rule → ParseTrees Lexeme → Bool
  have_parts (Sequence []) NoTree = true
  have_parts (Sequence (p ∷ parts)) (MoreTrees tree trees) =
      fits p tree && have_parts (Sequence parts) trees
  have_parts (Optional p) NoTree = true
  have_parts (Optional p) (MoreTrees tree NoTree) = fits p tree
  have_parts (Many p) NoTree = true
  have_parts (Many p) (MoreTrees tree trees) = fits p tree && have_parts (Many p) trees
  have_parts (AtLeastOne p) (MoreTrees tree trees) = fits p tree && have_parts (Many p) trees
  have_parts (SeparatedBy p s) (MoreTrees tree trees) = fits p tree && have_parts (Many p) trees
  have_parts (Ahead p) NoTree = true
  have_parts (NotAhead p) NoTree = true
  have_parts _ _ = false
