-- Types and expressions as lists of cells, in prefix notation: a form stands before its parts, and
-- each part of a list after a cell of its own.
use Rattle.std.specs.Prelude.{◌≡◌, ℕ, List, [], ◌∷◌, ◌++◌}
use Rattle.cu_flatread.specs.Modules as m
use Rattle.cu_flatread.specs.Modules.{Branches, Expression, Expressions, Pattern, TypeExpression, TypeExpressions}
use Rattle.cu_flatread.specs.declared.cells.ExpressionCell.{ExpressionCell}
use Rattle.cu_flatread.specs.declared.cells.ExpressionCell.TheVariants as expression
use Rattle.cu_flatread.specs.declared.cells.FlatEntity.{FlatEntity}
use Rattle.cu_flatread.specs.declared.cells.TypeCell.{TypeCell}
use Rattle.cu_flatread.specs.declared.cells.TypeCell.TheVariants as type

-- ---- the cells of types

abbrev mutual
  -- the cells of a type
  pub spell_type : TypeExpression FlatEntity → List TypeCell
  spell_type (m.Variable x) = type.Variable x ∷ []
  spell_type (m.Arrow a b) = type.Arrow ∷ (spell_type a ++ spell_type b)
  spell_type (m.Named e ts) = type.Named e ∷ spell_types ts

  -- the cells of several types
  pub spell_types : TypeExpressions FlatEntity → List TypeCell
  spell_types m.NoType = type.End ∷ []
  spell_types (m.MoreTypes t ts) = type.More ∷ (spell_type t ++ spell_types ts)

-- what cells of types spell: a type, or several
pub data Typed : Type 0 where
  OneType : TypeExpression FlatEntity → Typed
  TypeList : TypeExpressions FlatEntity → Typed

-- what a cell makes of what stands after it
abbrev pub put_type : TypeCell → List Typed → List Typed
put_type (type.Variable x) after = OneType (m.Variable x) ∷ after
put_type type.Arrow (OneType a ∷ OneType b ∷ after) = OneType (m.Arrow a b) ∷ after
put_type (type.Named e) (TypeList ts ∷ after) = OneType (m.Named e ts) ∷ after
put_type type.More (OneType t ∷ TypeList ts ∷ after) = TypeList (m.MoreTypes t ts) ∷ after
put_type type.End after = TypeList m.NoType ∷ after
put_type _ after = after

-- what cells spell, read from the right
abbrev pub all_typed : List TypeCell → List Typed
all_typed [] = []
all_typed (cell ∷ cells) = put_type cell (all_typed cells)

abbrev pub first_type : List Typed → TypeExpression FlatEntity
first_type (OneType t ∷ after) = t
first_type _ = m.Variable 0

abbrev pub first_types : List Typed → TypeExpressions FlatEntity
first_types (TypeList ts ∷ after) = ts
first_types _ = m.NoType

-- the type that cells spell
abbrev pub read_type : List TypeCell → TypeExpression FlatEntity
read_type cells = first_type (all_typed cells)

-- the types that cells spell
abbrev pub read_types : List TypeCell → TypeExpressions FlatEntity
read_types cells = first_types (all_typed cells)

-- the cells are those of one type
abbrev pub IsOneType : List TypeCell → Type 0
IsOneType cells = spell_type (read_type cells) ≡ cells

-- the cells are those of a list of types
abbrev pub IsTypeList : List TypeCell → Type 0
IsTypeList cells = spell_types (read_types cells) ≡ cells

-- ---- the cells of expressions

-- the cells of the variables of a pattern
abbrev pub spell_variables : List ℕ → List ExpressionCell
spell_variables [] = expression.EndOfVariables ∷ []
spell_variables (x ∷ xs) = expression.Bound x ∷ spell_variables xs

abbrev pub spell_pattern : Pattern FlatEntity → List ExpressionCell
spell_pattern (m.Built e xs) = expression.Pattern e ∷ spell_variables xs
spell_pattern (m.Exactly l) = expression.LPattern l ∷ []

abbrev mutual
  -- the cells of an expression
  pub spell_expression : Expression FlatEntity → List ExpressionCell
  spell_expression (m.Var x) = expression.Var x ∷ []
  spell_expression (m.Literal l) = expression.Literal l ∷ []
  spell_expression (m.Comb kind e ts) = expression.Comb kind e ∷ spell_expressions ts
  spell_expression (m.Let x a b) =
      expression.Let x ∷ (spell_expression a ++ spell_expression b)
  spell_expression (m.Free x a) = expression.Free x ∷ spell_expression a
  spell_expression (m.Or a b) = expression.Or ∷ (spell_expression a ++ spell_expression b)
  spell_expression (m.Case mode a bs) =
      expression.Case mode ∷ (spell_expression a ++ spell_branches bs)

  -- the cells of several expressions
  pub spell_expressions : Expressions FlatEntity → List ExpressionCell
  spell_expressions m.NoExpression = expression.End ∷ []
  spell_expressions (m.MoreExpressions t ts) =
      expression.More ∷ (spell_expression t ++ spell_expressions ts)

  -- the cells of several branches
  pub spell_branches : Branches FlatEntity → List ExpressionCell
  spell_branches m.NoBranch = expression.EndOfBranches ∷ []
  spell_branches (m.MoreBranches p t bs) =
      expression.Branch ∷ (spell_pattern p ++ (spell_expression t ++ spell_branches bs))

-- what cells of expressions spell: an expression, several, branches, a pattern, or its variables
pub data Expressed : Type 0 where
  OneExpression : Expression FlatEntity → Expressed
  ExpressionList : Expressions FlatEntity → Expressed
  BranchList : Branches FlatEntity → Expressed
  OnePattern : Pattern FlatEntity → Expressed
  VariableList : List ℕ → Expressed

-- what a cell makes of what stands after it
abbrev pub put_expression : ExpressionCell → List Expressed → List Expressed
put_expression (expression.Var x) after = OneExpression (m.Var x) ∷ after
put_expression (expression.Literal l) after = OneExpression (m.Literal l) ∷ after
put_expression (expression.Comb kind e) (ExpressionList ts ∷ after) =
    OneExpression (m.Comb kind e ts) ∷ after
put_expression (expression.Let x) (OneExpression a ∷ OneExpression b ∷ after) =
    OneExpression (m.Let x a b) ∷ after
put_expression (expression.Free x) (OneExpression a ∷ after) = OneExpression (m.Free x a) ∷ after
put_expression expression.Or (OneExpression a ∷ OneExpression b ∷ after) =
    OneExpression (m.Or a b) ∷ after
put_expression (expression.Case mode) (OneExpression a ∷ BranchList bs ∷ after) =
    OneExpression (m.Case mode a bs) ∷ after
put_expression expression.More (OneExpression t ∷ ExpressionList ts ∷ after) =
    ExpressionList (m.MoreExpressions t ts) ∷ after
put_expression expression.End after = ExpressionList m.NoExpression ∷ after
put_expression expression.Branch (OnePattern p ∷ OneExpression t ∷ BranchList bs ∷ after) =
    BranchList (m.MoreBranches p t bs) ∷ after
put_expression expression.EndOfBranches after = BranchList m.NoBranch ∷ after
put_expression (expression.Pattern e) (VariableList xs ∷ after) = OnePattern (m.Built e xs) ∷ after
put_expression (expression.LPattern l) after = OnePattern (m.Exactly l) ∷ after
put_expression (expression.Bound x) (VariableList xs ∷ after) = VariableList (x ∷ xs) ∷ after
put_expression expression.EndOfVariables after = VariableList [] ∷ after
put_expression _ after = after

-- what cells spell, read from the right
abbrev pub all_expressed : List ExpressionCell → List Expressed
all_expressed [] = []
all_expressed (cell ∷ cells) = put_expression cell (all_expressed cells)

abbrev pub first_expression : List Expressed → Expression FlatEntity
first_expression (OneExpression t ∷ after) = t
first_expression _ = m.Var 0

-- the expression that cells spell
abbrev pub read_expression : List ExpressionCell → Expression FlatEntity
read_expression cells = first_expression (all_expressed cells)

-- the cells are those of one expression
abbrev pub IsOneExpression : List ExpressionCell → Type 0
IsOneExpression cells = spell_expression (read_expression cells) ≡ cells
