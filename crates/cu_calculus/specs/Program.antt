-- Programs: for each function its rules, or the operation that is built in.
use Rattle.std.specs.Prelude.{ℕ, List, Option, option_map, slice_get}
use Rattle.cu_calculus.specs.declared.ConId.{ConId}
use Rattle.cu_calculus.specs.declared.FunId.{FunId}
use Rattle.cu_calculus.specs.declared.Head.{Head}
use Rattle.cu_calculus.specs.declared.Head.TheVariants as head
use Rattle.cu_calculus.specs.declared.builtin.Primitive.{Primitive}
use Rattle.cu_calculus.specs.declared.builtin.Special.{Special}
use Rattle.cu_calculus.specs.Term.{Patterns, Term}

-- a rule: a pattern for each parameter, and the right side
pub record Rule : Type 0 where
  pub params : Patterns
  pub body : Term

-- what a function computes: its rules, or an operation that is built in
pub data Body : Type 0 where
  Rules : List Rule → Body
  External : Primitive → Body

-- a function: how many parameters it has, and its body
pub record Function : Type 0 where
  pub arity : ℕ
  pub body : Body

-- a constructor: the index of its type among the program's types, and how many arguments it takes
pub record Constructor : Type 0 where
  pub of_type : ℕ
  pub arity : ℕ

-- a program: functions, constructors, and the built-in entities
pub record Program : Type 0 where
  pub functions : List Function
  pub constructors : List Constructor
  pub special : Special

-- the function with a number, where there is one
abbrev pub function_of : Program → FunId → Option Function
function_of program f = slice_get program.functions f.0

-- the constructor with a number, where there is one
abbrev pub constructor_of : Program → ConId → Option Constructor
constructor_of program c = slice_get program.constructors c.0

-- how many arguments a head takes, where it is the program's; a set function takes as many as its
-- function
abbrev pub arity_in : Program → Head → Option ℕ
arity_in program (head.Fun f) = option_map (λ function. function.arity) (function_of program f)
arity_in program (head.Con c) =
    option_map (λ constructor. constructor.arity) (constructor_of program c)
arity_in program (head.Set f) = option_map (λ function. function.arity) (function_of program f)
