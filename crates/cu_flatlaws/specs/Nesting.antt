-- How deep types and expressions of FlatCurry are nested. One without a type or an expression in it
-- is nested once.
use Rattle.std.specs.Prelude.{ℕ, suc, List, [], ◌∷◌, max}
use Rattle.cu_flatread.specs.Modules as m
use Rattle.cu_flatread.specs.Modules.{Branches, Constructor, Declaration, Expression, Expressions, Function, FunctionRule, Module, RightSide, TypeExpression, TypeExpressions}
use Rattle.cu_flatread.specs.Notation.{Entity}

-- the greatest of the numbers of a list's elements, and 0 of none
abbrev pub greatest : {A : Type 0} → (A → ℕ) → List A → ℕ
greatest f [] = 0
greatest f (x ∷ xs) = max (f x) (greatest f xs)

-- ---- types

abbrev mutual
  pub type_nesting : TypeExpression Entity → ℕ
  type_nesting (m.Variable x) = 1
  type_nesting (m.Arrow a b) = suc (max (type_nesting a) (type_nesting b))
  type_nesting (m.Named e ts) = suc (types_nesting ts)

  -- the deepest nesting of several types
  pub types_nesting : TypeExpressions Entity → ℕ
  types_nesting m.NoType = 0
  types_nesting (m.MoreTypes t ts) = max (type_nesting t) (types_nesting ts)

-- ---- expressions

abbrev mutual
  pub expression_nesting : Expression Entity → ℕ
  expression_nesting (m.Var x) = 1
  expression_nesting (m.Literal l) = 1
  expression_nesting (m.Comb kind e ts) = suc (expressions_nesting ts)
  expression_nesting (m.Let x a b) = suc (max (expression_nesting a) (expression_nesting b))
  expression_nesting (m.Free x a) = suc (expression_nesting a)
  expression_nesting (m.Or a b) = suc (max (expression_nesting a) (expression_nesting b))
  expression_nesting (m.Case mode a branches) =
      suc (max (expression_nesting a) (branches_nesting branches))

  -- the deepest nesting of several expressions
  pub expressions_nesting : Expressions Entity → ℕ
  expressions_nesting m.NoExpression = 0
  expressions_nesting (m.MoreExpressions t ts) =
      max (expression_nesting t) (expressions_nesting ts)

  -- the deepest nesting of the expressions of branches
  pub branches_nesting : Branches Entity → ℕ
  branches_nesting m.NoBranch = 0
  branches_nesting (m.MoreBranches p t branches) =
      max (expression_nesting t) (branches_nesting branches)

-- ---- modules

abbrev pub constructor_nesting : Constructor → ℕ
constructor_nesting c = types_nesting c.fields

abbrev pub right_side_nesting : RightSide → ℕ
right_side_nesting (m.OfType cs) = greatest constructor_nesting cs
right_side_nesting (m.OfTypeSyn t) = type_nesting t

abbrev pub declaration_nesting : Declaration → ℕ
declaration_nesting d = right_side_nesting d.right_side

abbrev pub rule_nesting : FunctionRule → ℕ
rule_nesting (m.Rule xs t) = expression_nesting t
rule_nesting (m.External name) = 0

abbrev pub function_nesting : Function → ℕ
function_nesting f = max (type_nesting f.of_type) (rule_nesting f.rule)

-- the deepest nesting of the types and expressions of a module
abbrev pub nesting : Module → ℕ
nesting flat =
    max (greatest declaration_nesting flat.types) (greatest function_nesting flat.functions)
