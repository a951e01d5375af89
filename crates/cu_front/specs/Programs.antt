-- Programs whose local functions are lifted, and why such a program can't be run.
use Rattle.std.specs.Prelude.{ℕ, List, [], ◌∷◌, ◌++◌, Bool, false, Option, None, Some, Ok, Err}
use Rattle.std.specs.Prelude.{codes, if◌then◌else◌, nat_le, slice_get}
use Rattle.std.specs.Option.{option_map, unwrap_or}
use Rattle.cu_calculus.specs.Claims.{AreLevels}
use Rattle.cu_calculus.specs.Program as calculus
use Rattle.cu_calculus.specs.declared.FunId.{FunId}
use Rattle.cu_deftree.specs.LoweredProgram.{Lowering}
use Rattle.cu_kernel.specs.Kernel as kernel
use Rattle.cu_kernel.specs.Kernel.{Kernel, program_of}
use Rattle.cu_kernel.specs.LocalKernel.{LocalKernel}
use Rattle.cu_kernel.specs.TypeExpr.{TypeExpr}
use Rattle.cu_kernel.specs.Valid.{IsValid}
use Rattle.cu_lift.specs.Lifting.{Lifts}
use Rattle.cu_lift.specs.SetCycles.{IsSetRecursion}
use Rattle.cu_names.specs.Texts.{AllDiffer, Extends, text_of}
use Rattle.cu_types.specs.Inference.{IsInferred, PrincipallyTyped}
use Rattle.cu_types.specs.TypeFaults.{HasBrokenSignature, HasFunctionalGoal, HasNoSolution}
use Rattle.cu_front.specs.Refusal.{GoalFunctional, Refusal, SetRecursion, Signature, TreeTooBig}
use Rattle.cu_front.specs.Refusal.{TypeClash}

-- The program is the lifting of one before lifting, by a table that has the names of the lifted
-- functions too.
pub record IsLifted (table : List (List ℕ)) (local : LocalKernel) (names : List (List ℕ))
    (program : Kernel) : Type 0 where
  pub more : Extends table names
  pub differ : AllDiffer names
  pub lifts : Lifts names local program

-- ---- functions by name

-- the name of the module of a number
abbrev pub module_name : List (List ℕ) → Kernel → ℕ → List ℕ
module_name names program k =
    unwrap_or (option_map (λ (m : kernel.Module). text_of names m.name)
    (slice_get program.modules k)) []

-- whether a function is the goal's, or is lifted from it; such functions stand after all others
abbrev pub is_of_goal : Option kernel.Goal → FunId → Bool
is_of_goal None f = false
is_of_goal (Some goal) f = nat_le goal.function.0 f.0

-- the name of a function without its module's
abbrev pub own_name : List (List ℕ) → Kernel → FunId → List ℕ
own_name names program f =
    unwrap_or (option_map (λ (g : kernel.Function). text_of names g.name)
    (slice_get program.functions f.0)) []

-- the number of a function's module
abbrev pub owner_of : Kernel → FunId → ℕ
owner_of program f =
    unwrap_or (option_map (λ (m : kernel.Mark). m.«module») (slice_get program.marks f.0)) 0

-- the text of a function: `MODULE.NAME`, or the name alone for a function of the goal
abbrev pub function_text : List (List ℕ) → Kernel → FunId → List ℕ
function_text names program f =
    if is_of_goal program.goal f then own_name names program f
    else module_name names program (owner_of program f) ++ (codes "." ++ own_name names program f)

-- ---- why a program can't be run

-- The program has set levels.
abbrev pub HasLevels : Kernel → Type 0
HasLevels program = (levels : List ℕ) × AreLevels (program_of program) levels

-- Each function of the program has a type, and these are principal.
abbrev pub IsTypable : Kernel → Type 0
IsTypable program = (interface : List TypeExpr) × PrincipallyTyped program interface

-- Why a program can't be run: it has no set levels; or else a dependency group can't be typed,
-- since its equations have no solution or none that keeps to the declared types; or else the
-- definitional tree of a function is too big; or else the type of the goal, or of a variable of it,
-- holds functions.
pub data CannotRun (names : List (List ℕ)) (program : Kernel) : Refusal → Type 0 where
  sets : (first : FunId) (cycle : List FunId) → IsSetRecursion (program_of program) (first ∷ cycle)
      → CannotRun names program (SetRecursion (function_text names program first))
  clash : (f : FunId) → HasLevels program → HasNoSolution program f
      → CannotRun names program (TypeClash (function_text names program f))
  signature : (f : FunId) → HasLevels program → HasBrokenSignature program f
      → CannotRun names program (Signature (function_text names program f))
  size : (f : FunId) → HasLevels program → IsTypable program
      → Lowering (program_of program) (Err f)
      → CannotRun names program (TreeTooBig (function_text names program f))
  functional : (flat : calculus.Program) → HasLevels program → HasFunctionalGoal program
      → Lowering (program_of program) (Ok flat) → CannotRun names program GoalFunctional

-- The program is valid and has set levels, and this is its flat program. Whether it has types isn't
-- asked.
pub record IsLowered (program : Kernel) (flat : calculus.Program) : Type 0 where
  pub valid : IsValid program
  pub levels : HasLevels program
  pub lowered : Lowering (program_of program) (Ok flat)

-- The program can be run: these are the types of its functions, and this is its flat program.
pub record CanRun (program : Kernel) (interface : List TypeExpr) (flat : calculus.Program)
    : Type 0 where
  pub types : IsInferred program interface
  pub lowering : IsLowered program flat
