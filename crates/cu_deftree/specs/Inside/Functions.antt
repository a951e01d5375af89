-- What the code makes of functions.
use Rattle.std.specs.Prelude.{◌≡◌, ◌<◌, ◌≤◌, ℕ, suc, List, Option, None, Some, Result, Ok, Err, length, map, slice_get}
use Rattle.cu_calculus.specs.Program as calculus
use Rattle.cu_calculus.specs.Term.{Term}
use Rattle.cu_calculus.specs.declared.FunId.{FunId}
use Rattle.cu_calculus.specs.declared.builtin.Primitive.{Primitive}
use Rattle.cu_deftree.specs.Lowering.{IsOperation, Tree, variables}
use Rattle.cu_deftree.specs.LoweredProgram.{FunctionLowers, body_size, most_expressions, size}
use Rattle.cu_deftree.specs.Rows.{numbers, row_of_rule}
use Rattle.cu_deftree.specs.declared.tasks.Stop.{Stop}
use Rattle.cu_deftree.specs.declared.tasks.Stop.TheVariants as stop
use Rattle.cu_kernel.specs.Kernel as kernel
use Rattle.cu_kernel.specs.Kernel.{plain_function}
use Rattle.cu_kernel.specs.KernelOf.{function_meaning, rule_meaning}
use Rattle.cu_kernel.specs.declared.term.Function.{Function}
use Rattle.cu_kernel.specs.declared.term.Rule.{Rule}

-- the tree of the rules of a function that takes so many arguments
abbrev pub RulesTree : calculus.Program → ℕ → List calculus.Rule → Term → Type 0
RulesTree program arity rules t =
    Tree program (numbers 1 arity) (suc arity) (map (row_of_rule (numbers 1 arity)) rules) t

-- the only rule that rules become
pub record IsOnlyRule (program : calculus.Program) (arity : ℕ) (rules : List calculus.Rule)
    (rule : calculus.Rule) : Type 0 where
  pub params : rule.params ≡ variables (numbers 1 arity)
  pub tree : RulesTree program arity rules rule.body
  pub small : size rule.body ≤ most_expressions

abbrev pub LowersRules : calculus.Program → ℕ → List calculus.Rule → Result Rule Stop → Type 0
LowersRules program arity rules (Ok rule) = IsOnlyRule program arity rules (rule_meaning rule)
LowersRules program arity rules (Err stop.TooBig) =
    (t : Term) → RulesTree program arity rules t → most_expressions < size t
LowersRules program arity rules (Err stop.NoMemory) = Unit {0}

-- a function, and one that it is lowered to
pub record IsLowered (program : calculus.Program)
    (function lowered : kernel.Function) : Type 0 where
  pub lowers : FunctionLowers program (plain_function function) (plain_function lowered)
  pub name : lowered.name ≡ function.name
  pub small : body_size lowered.body ≤ most_expressions

-- each function that this one may be lowered to is too big
abbrev pub IsTooBig : calculus.Program → kernel.Function → Type 0
IsTooBig program function =
    (lowered : calculus.Function) → FunctionLowers program (plain_function function) lowered
    → most_expressions < body_size lowered.body

abbrev pub LowersFunction : calculus.Program → kernel.Function → Result Function Stop → Type 0
LowersFunction program function (Ok lowered) = IsLowered program function (function_meaning lowered)
LowersFunction program function (Err stop.TooBig) = IsTooBig program function
LowersFunction program function (Err stop.NoMemory) = Unit {0}

-- Of these functions the first n are lowered to these.
pub record AreLowered (program : calculus.Program) (functions : List kernel.Function) (n : ℕ)
    (lowered : List kernel.Function) : Type 0 where
  pub count : length lowered ≡ n
  pub each : (k : ℕ) (one : kernel.Function) → slice_get lowered k ≡ Some one
      → (function : kernel.Function)
      → slice_get functions k ≡ Some function → IsLowered program function one

-- the functions before one are lowered, and that one's body is too big
pub record IsFirstTooBig (program : calculus.Program) (functions : List kernel.Function)
    (f : FunId) : Type 0 where
  pub before : List kernel.Function
  pub are_lowered : AreLowered program functions f.0 before
  pub function : kernel.Function
  pub there : slice_get functions f.0 ≡ Some function
  pub too_big : IsTooBig program function

-- the first function that is an operation, or that none is
abbrev pub IsFound : calculus.Program → Primitive → Option FunId → Type 0
IsFound program operation (Some f) = IsOperation program operation f
IsFound program operation None = ((f : FunId) × IsOperation program operation f) → ⊥
