-- Flat code: a program whose bodies stand as expressions in one list, where an expression names its
-- parts by their indices.
use Rattle.std.specs.Prelude.{ℕ, Bool, true, false, List, [], Option, None, Some, slice_get}
use Rattle.cu_calculus.specs.declared.ConId.{ConId}
use Rattle.cu_calculus.specs.declared.ExprId.{ExprId}
use Rattle.cu_calculus.specs.declared.FunId.{FunId}
use Rattle.cu_calculus.specs.declared.Head.{Head}
use Rattle.cu_calculus.specs.declared.Head.TheVariants as head
use Rattle.cu_calculus.specs.declared.Lit.{Lit}
use Rattle.cu_calculus.specs.declared.Mode.{Mode}
use Rattle.cu_calculus.specs.declared.builtin.Primitive.{Primitive}
use Rattle.cu_calculus.specs.Program.{Constructor}
use Rattle.cu_calculus.specs.declared.builtin.Special.{Special}

-- the pattern of a branch: a literal, or a constructor over variables
pub data Shallow : Type 0 where
  Exactly : Lit → Shallow
  Built : ConId → List ℕ → Shallow

-- a branch of a case distinction: a pattern and the index of a body
pub record Branch : Type 0 where
  pub pattern : Shallow
  pub body : ExprId

-- an expression, which names its parts by their indices
pub data Expr : Type 0 where
  Variable : ℕ → Expr
  Literal : Lit → Expr
  -- a head with all its arguments
  Whole : Head → List ExprId → Expr
  -- a head with fewer arguments than it takes
  Part : Head → List ExprId → Expr
  Apply : ExprId → ExprId → Expr
  Let : ℕ → ExprId → ExprId → Expr
  Free : ℕ → ExprId → Expr
  Or : ExprId → ExprId → Expr
  -- a case distinction, with the variables that its branches use beside their patterns' own, in the
  -- order of their binding
  Case : Mode → List ℕ → ExprId → List Branch → Expr

-- A function has one rule, over parameters that are variables, or is built in.
pub data Body : Type 0 where
  Rule : List ℕ → ExprId → Body
  External : Primitive → Body

-- a function: how many parameters it has, and its body
pub record Function : Type 0 where
  pub arity : ℕ
  pub body : Body

-- flat code: functions, constructors, built-in entities, and the list of all expressions
pub record Code : Type 0 where
  pub functions : List Function
  pub constructors : List Constructor
  pub special : Special
  pub expressions : List Expr

-- the rule of a function, or the operation that is built in, where there is such a function
abbrev pub body_of : Code → FunId → Option Body
body_of code f = elim (slice_get code.functions f.0) [
  | Some function ↦ Some function.body
  | None ↦ None
]

-- whether a function has a rule
abbrev pub is_rule : Option Body → Bool
is_rule (Some (Rule params e)) = true
is_rule _ = false

-- the expression of a number, where there is one
abbrev pub expr_of : Code → ExprId → Option Expr
expr_of code e = slice_get code.expressions e.0

-- the variables that an expression keeps, where it is a case distinction
abbrev pub kept_in : Option Expr → List ℕ
kept_in (Some (Case mode kept e branches)) = kept
kept_in _ = []

-- the variables that an expression of the code keeps, where it is a case distinction
abbrev pub kept_by : Code → ExprId → List ℕ
kept_by code e = kept_in (expr_of code e)

-- how many arguments a head takes, where it is one of the code; a set function takes those of its
-- function
abbrev pub function_arity : Code → FunId → Option ℕ
function_arity code f =
    elim (slice_get code.functions f.0) [ Some function ↦ Some function.arity | None ↦ None ]

-- how many arguments a head takes, where it is one of the code
abbrev pub arity_of : Code → Head → Option ℕ
arity_of code (head.Fun f) = function_arity code f
arity_of code (head.Con c) =
    elim (slice_get code.constructors c.0) [
      | Some constructor ↦ Some constructor.arity
      | None ↦ None
    ]
arity_of code (head.Set f) = function_arity code f
