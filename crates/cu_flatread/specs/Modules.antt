-- What a module in FlatCurry (Hanus and others) has: its imports, types, functions and operators.
-- Names are texts, and variables are the numbers that the module's text has for them.
use Rattle.std.specs.Prelude.{ℕ, Bool, List}
use Rattle.cu_calculus.specs.declared.Lit.{Lit}
use Rattle.cu_calculus.specs.declared.Mode.{Mode}
use Rattle.cu_kernel.specs.declared.declarations.Side.{Side}
use Rattle.cu_flatread.specs.Notation.{Entity}
use Rattle.cu_flatread.specs.declared.cells.CombKind.{CombKind}

-- ---- types

mutual
  -- a type over entities of some kind
  pub data TypeExpression (E : Type 0) : Type 0 where
    Variable : ℕ → TypeExpression E
    -- the type of the functions from one type to another
    Arrow : TypeExpression E → TypeExpression E → TypeExpression E
    -- a data type or a synonym with arguments
    Named : E → TypeExpressions E → TypeExpression E

  -- several types
  pub data TypeExpressions (E : Type 0) : Type 0 where
    NoType : TypeExpressions E
    MoreTypes : TypeExpression E → TypeExpressions E → TypeExpressions E

-- a constructor, with the types of its arguments
pub record Constructor : Type 0 where
  pub entity : Entity
  pub arity : ℕ
  pub public : Bool
  pub fields : TypeExpressions Entity

-- the right side of a declaration of a type
pub data RightSide : Type 0 where
  -- a data type, with its constructors
  OfType : List Constructor → RightSide
  -- a synonym of a type
  OfTypeSyn : TypeExpression Entity → RightSide

-- a declaration of a type, with the numbers of its parameters
pub record Declaration : Type 0 where
  pub entity : Entity
  pub public : Bool
  pub parameters : List ℕ
  pub right_side : RightSide

-- ---- expressions

-- a pattern over entities of some kind: a constructor over variables, or a literal
pub data Pattern (E : Type 0) : Type 0 where
  Built : E → List ℕ → Pattern E
  Exactly : Lit → Pattern E

mutual
  -- an expression over entities of some kind
  pub data Expression (E : Type 0) : Type 0 where
    Var : ℕ → Expression E
    Literal : Lit → Expression E
    Comb : CombKind → E → Expressions E → Expression E
    -- a variable that is bound to the first expression in the second
    Let : ℕ → Expression E → Expression E → Expression E
    -- a free variable in an expression
    Free : ℕ → Expression E → Expression E
    Or : Expression E → Expression E → Expression E
    Case : Mode → Expression E → Branches E → Expression E

  -- several expressions
  pub data Expressions (E : Type 0) : Type 0 where
    NoExpression : Expressions E
    MoreExpressions : Expression E → Expressions E → Expressions E

  -- several branches, each a pattern and its expression
  pub data Branches (E : Type 0) : Type 0 where
    NoBranch : Branches E
    MoreBranches : Pattern E → Expression E → Branches E → Branches E

-- ---- functions and modules

-- a rule over parameters, or the name under which a function is built in
pub data FunctionRule : Type 0 where
  Rule : List ℕ → Expression Entity → FunctionRule
  External : List ℕ → FunctionRule

-- a function, with its type
pub record Function : Type 0 where
  pub entity : Entity
  pub arity : ℕ
  pub public : Bool
  pub of_type : TypeExpression Entity
  pub rule : FunctionRule

-- the fixity of an operator
pub record Operator : Type 0 where
  pub entity : Entity
  pub side : Side
  pub level : ℕ

-- a module
pub record Module : Type 0 where
  pub name : List ℕ
  pub imports : List (List ℕ)
  pub types : List Declaration
  pub functions : List Function
  pub operators : List Operator
