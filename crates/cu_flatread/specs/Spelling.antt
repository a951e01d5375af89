-- Reading gives back the tree that was spelled, so that cells spell at most one.
use Rattle.std.specs.Prelude.{◌≡◌, ℕ, List, [], ◌∷◌, ◌++◌, refl}
use Rattle.std.specs.Coded.{Coded, code_by, coded_list}
use Rattle.std.proofs.Common.{append_assoc, append-nil}
use Rattle.cu_flatread.specs.Cells.{OneExpression, ExpressionList, BranchList, OnePattern, VariableList, OneType, TypeList, all_expressed, all_typed, read_expression, read_type, read_types, spell_branches, spell_expression, spell_expressions, spell_pattern, spell_type, spell_types, spell_variables}
use Rattle.cu_flatread.specs.Modules as m
use Rattle.cu_flatread.specs.Modules.{Branches, Expression, Expressions, Pattern, TypeExpression, TypeExpressions}
use Rattle.cu_flatread.specs.contracts.cells.ExpressionCell as expression_contract
use Rattle.cu_flatread.specs.contracts.cells.TypeCell as type_contract
use Rattle.cu_flatread.specs.declared.cells.ExpressionCell.{ExpressionCell}
use Rattle.cu_flatread.specs.declared.cells.FlatEntity.{FlatEntity}
use Rattle.cu_flatread.specs.declared.cells.TypeCell.{TypeCell}

-- ---- types

mutual
  pub typed-type : (t : TypeExpression FlatEntity) (cells : List TypeCell)
      → all_typed (spell_type t ++ cells) ≡ OneType t ∷ all_typed cells
  typed-type (m.Variable x) cells = refl
  typed-type (m.Arrow a b) cells =
      rw (
        append_assoc (spell_type a) (spell_type b) cells,
        typed-type a (spell_type b ++ cells),
        typed-type b cells,
      ) refl
  typed-type (m.Named e ts) cells = rw (typed-types ts cells) refl

  pub typed-types : (ts : TypeExpressions FlatEntity) (cells : List TypeCell)
      → all_typed (spell_types ts ++ cells) ≡ TypeList ts ∷ all_typed cells
  typed-types m.NoType cells = refl
  typed-types (m.MoreTypes t ts) cells =
      rw (
        append_assoc (spell_type t) (spell_types ts) cells,
        typed-type t (spell_types ts ++ cells),
        typed-types ts cells,
      ) refl

pub read-spell_type : (t : TypeExpression FlatEntity) → read_type (spell_type t) ≡ t
read-spell_type t = rw (← append-nil (spell_type t), typed-type t []) refl

pub read-spell_types : (ts : TypeExpressions FlatEntity) → read_types (spell_types ts) ≡ ts
read-spell_types ts = rw (← append-nil (spell_types ts), typed-types ts []) refl

-- the code by which types are told apart: their cells
abbrev pub type_code : Coded (TypeExpression FlatEntity)
type_code =
    code_by (List TypeCell) (coded_list type_contract.the_row.coded) spell_type read_type
    read-spell_type

-- the code by which lists of types are told apart: their cells
abbrev pub types_code : Coded (TypeExpressions FlatEntity)
types_code =
    code_by (List TypeCell) (coded_list type_contract.the_row.coded) spell_types read_types
    read-spell_types

-- ---- expressions

pub expressed-variables : (xs : List ℕ) (cells : List ExpressionCell)
    → all_expressed (spell_variables xs ++ cells) ≡ VariableList xs ∷ all_expressed cells
expressed-variables [] cells = refl
expressed-variables (x ∷ xs) cells = rw (expressed-variables xs cells) refl

pub expressed-pattern : (p : Pattern FlatEntity) (cells : List ExpressionCell)
    → all_expressed (spell_pattern p ++ cells) ≡ OnePattern p ∷ all_expressed cells
expressed-pattern (m.Built e xs) cells = rw (expressed-variables xs cells) refl
expressed-pattern (m.Exactly l) cells = refl

mutual
  pub expressed-expression : (t : Expression FlatEntity) (cells : List ExpressionCell)
      → all_expressed (spell_expression t ++ cells) ≡ OneExpression t ∷ all_expressed cells
  expressed-expression (m.Var x) cells = refl
  expressed-expression (m.Literal l) cells = refl
  expressed-expression (m.Comb kind e ts) cells = rw (expressed-expressions ts cells) refl
  expressed-expression (m.Let x a b) cells =
      rw (
        append_assoc (spell_expression a) (spell_expression b) cells,
        expressed-expression a (spell_expression b ++ cells),
        expressed-expression b cells,
      ) refl
  expressed-expression (m.Free x a) cells = rw (expressed-expression a cells) refl
  expressed-expression (m.Or a b) cells =
      rw (
        append_assoc (spell_expression a) (spell_expression b) cells,
        expressed-expression a (spell_expression b ++ cells),
        expressed-expression b cells,
      ) refl
  expressed-expression (m.Case mode a bs) cells =
      rw (
        append_assoc (spell_expression a) (spell_branches bs) cells,
        expressed-expression a (spell_branches bs ++ cells),
        expressed-branches bs cells,
      ) refl

  pub expressed-expressions : (ts : Expressions FlatEntity) (cells : List ExpressionCell)
      → all_expressed (spell_expressions ts ++ cells) ≡ ExpressionList ts ∷ all_expressed cells
  expressed-expressions m.NoExpression cells = refl
  expressed-expressions (m.MoreExpressions t ts) cells =
      rw (
        append_assoc (spell_expression t) (spell_expressions ts) cells,
        expressed-expression t (spell_expressions ts ++ cells),
        expressed-expressions ts cells,
      ) refl

  pub expressed-branches : (bs : Branches FlatEntity) (cells : List ExpressionCell)
      → all_expressed (spell_branches bs ++ cells) ≡ BranchList bs ∷ all_expressed cells
  expressed-branches m.NoBranch cells = refl
  expressed-branches (m.MoreBranches p t bs) cells =
      rw (
        append_assoc (spell_pattern p) (spell_expression t ++ spell_branches bs) cells,
        append_assoc (spell_expression t) (spell_branches bs) cells,
        expressed-pattern p (spell_expression t ++ (spell_branches bs ++ cells)),
        expressed-expression t (spell_branches bs ++ cells),
        expressed-branches bs cells,
      ) refl

pub read-spell_expression : (t : Expression FlatEntity)
    → read_expression (spell_expression t) ≡ t
read-spell_expression t =
    rw (← append-nil (spell_expression t), expressed-expression t []) refl

-- the code by which expressions are told apart: their cells
abbrev pub expression_code : Coded (Expression FlatEntity)
expression_code =
    code_by (List ExpressionCell) (coded_list expression_contract.the_row.coded) spell_expression
    read_expression read-spell_expression
