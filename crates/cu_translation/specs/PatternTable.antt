-- What patterns of the source stand for. Each wildcard is a variable of its own, and a name before
-- `@` names the whole value too.
use Rattle.std.specs.Prelude.{ℕ, pos, List, [], ◌∷◌, Option, None, Some, codes, map}
use Rattle.cu_calculus.specs.Term as calculus
use Rattle.cu_calculus.specs.declared.Lit.TheVariants as lit
use Rattle.cu_fixity.specs.declared.fixity.Fixity.{Fixity}
use Rattle.cu_fixity.specs.Grouping.{Applied, Between, Infix, Item, Leaf, Operand, Tree}
use Rattle.cu_lex.specs.Located.{Position}
use Rattle.cu_syntax.specs.Syntax as syntax
use Rattle.cu_syntax.specs.Syntax.{Name, Pattern, PatternRest, Patterns}
use Rattle.cu_translation.specs.Around.{Around, Names, Referent, tuple_name}
use Rattle.cu_translation.specs.GroupedTree.{grouped_tree}
use Rattle.cu_translation.specs.LocalNames.{Binder}
use Rattle.cu_translation.specs.Rules.{pattern_count}
use Rattle.cu_translation.specs.Terms.{constant, constructor_of}

-- the pattern for what is refused
abbrev pub no_pattern : calculus.Pattern
no_pattern = calculus.Exactly (lit.Int (pos 0))

abbrev pub patterns_of : List calculus.Pattern → calculus.Patterns
patterns_of [] = calculus.NoPattern
patterns_of (p ∷ ps) = calculus.MorePatterns p (patterns_of ps)

-- a constructor of the Prelude on patterns
abbrev pub built : Names → List ℕ → calculus.Patterns → calculus.Pattern
built names text ps = calculus.Built (constructor_of (names.prelude text)) ps

-- the list of some patterns
abbrev pub list_pattern : Names → calculus.Patterns → calculus.Pattern
list_pattern names calculus.NoPattern = constant names (codes "[]")
list_pattern names (calculus.MorePatterns p ps) =
    built names (codes ":") (patterns_of (p ∷ list_pattern names ps ∷ []))

abbrev pub character_pattern : ℕ → calculus.Pattern
character_pattern c = calculus.Exactly (lit.Char c)

abbrev pub literal_pattern : Names → syntax.Literal → calculus.Pattern
literal_pattern names (syntax.Int n) = calculus.Exactly (lit.Int n)
literal_pattern names (syntax.Char c) = calculus.Exactly (lit.Char c)
literal_pattern names (syntax.String cs) =
    list_pattern names (patterns_of (map character_pattern cs))

-- ---- constructors between patterns

pub record ConstructorOperator : Type 0 where
  pub fixity : Fixity
  pub means : Referent

abbrev pub constructor_operator : Names → Name → ConstructorOperator
constructor_operator names name = record { fixity = names.fixity name; means = names.value name }

abbrev pub tree_pattern : Tree calculus.Pattern ConstructorOperator → calculus.Pattern
tree_pattern (Leaf p) = p
tree_pattern (Applied o t) = no_pattern
tree_pattern (Between l o r) =
    calculus.Built (constructor_of o.means) (patterns_of (tree_pattern l ∷ tree_pattern r ∷ []))

abbrev pub grouped_pattern : Option (Tree calculus.Pattern ConstructorOperator) → calculus.Pattern
grouped_pattern None = no_pattern
grouped_pattern (Some t) = tree_pattern t

-- ---- the table

abbrev mutual
  -- a pattern whose variables and wildcards are these binders, by their places
  pub pattern : Around → (Position → Binder) → Pattern → calculus.Pattern
  pattern around binder (syntax.PatternVariable x) =
      calculus.Any (around.numbers.variable (binder x.at))
  pattern around binder (syntax.As x p) =
      calculus.Named (around.numbers.variable (binder x.at)) (pattern around binder p)
  pattern around binder (syntax.Wildcard at) = calculus.Any (around.numbers.variable (binder at))
  pattern around binder (syntax.PatternLiteral at found) = literal_pattern around.names found
  pattern around binder (syntax.Constructed at c ps) =
      calculus.Built (constructor_of (around.names.value c)) (patterns around binder ps)
  pattern around binder (syntax.PatternTuple at ps) =
      built around.names (tuple_name (pattern_count ps)) (patterns around binder ps)
  pattern around binder (syntax.PatternList at ps) =
      list_pattern around.names (patterns around binder ps)
  pattern around binder (syntax.PatternOperators at first rest) =
      grouped_pattern
      (grouped_tree (λ (o : ConstructorOperator). o.fixity)
      (Operand (pattern around binder first) ∷ rest_items around binder rest))

  pub patterns : Around → (Position → Binder) → Patterns → calculus.Patterns
  patterns around binder syntax.NoPattern = calculus.NoPattern
  patterns around binder (syntax.MorePatterns p ps) =
      calculus.MorePatterns (pattern around binder p) (patterns around binder ps)

  pub rest_items : Around → (Position → Binder) → PatternRest
      → List (Item calculus.Pattern ConstructorOperator)
  rest_items around binder syntax.NoConstructor = []
  rest_items around binder (syntax.ThenConstructor c p rest) =
      Infix (constructor_operator around.names c) ∷ Operand (pattern around binder p) ∷
      rest_items around binder rest
