-- Programs of modules and goals whose names and types are right, and what inference asks of the
-- types that a program declares.
use Rattle.std.specs.Prelude.{ℕ, List, [], Ok}
use Rattle.cu_calculus.specs.Program.{Program}
use Rattle.cu_declared.specs.TypeFaults.{AreRight, IsGoalRight}
use Rattle.cu_front.specs.Compiling.{Compiles, Folder, ModulesCompile, whole_program}
use Rattle.cu_front.specs.GoalTexts.{GoalIsRead}
use Rattle.cu_front.specs.Programs.{IsLifted}
use Rattle.cu_front.specs.Translated.{modules_program}
use Rattle.cu_kernel.specs.Kernel.{Kernel}
use Rattle.cu_kernel.specs.TypeExpr.{TypeExpr}
use Rattle.cu_modules.specs.Means.{AreScoped, IsGoalScoped}
use Rattle.cu_modules.specs.Scopes.{Named}
use Rattle.cu_modules.specs.Walk.{Walk}
use Rattle.cu_syntax.specs.Syntax.{Goal}
use Rattle.cu_types.specs.Synonyms.{DeclaresTypes}

-- The root reaches these modules, and they have no fault of names or types.
pub record HaveRightTypes (held : Folder) (root : List ℕ) (modules : List Named) : Type 0 where
  pub walked : Walk held root (Ok modules)
  pub scoped : AreScoped [] modules
  pub right : AreRight modules

-- The text is read as this goal in the module of number k, and it has no fault of names or types.
pub record HasRightTypes (modules : List Named) (k : ℕ) (text : List ℕ) (goal : Goal) : Type 0
  where
    pub read : GoalIsRead text (Ok goal)
    pub scoped : IsGoalScoped modules k goal
    pub right : IsGoalRight modules k goal

-- In every program that is lifted from modules without a fault of names or types, each name of a
-- type has its number of arguments, and no synonym leads to itself.
abbrev pub RightModulesDeclare : Type 0
RightModulesDeclare =
    (held : Folder) (root : List ℕ) (modules : List Named) (table names : List (List ℕ))
    (program : Kernel)
    → HaveRightTypes held root modules
    → IsLifted table (modules_program table modules) names program → DeclaresTypes program

-- In every program that is lifted from modules and a goal without a fault of names or types, each
-- name of a type has its number of arguments, and no synonym leads to itself.
abbrev pub RightGoalsDeclare : Type 0
RightGoalsDeclare =
    (held : Folder) (root : List ℕ) (modules : List Named) (k : ℕ) (text : List ℕ) (goal : Goal)
    (table names : List (List ℕ)) (program : Kernel)
    → HaveRightTypes held root modules → HasRightTypes modules k text goal
    → IsLifted table (whole_program table modules k goal) names program → DeclaresTypes program

-- In every program that modules come to, each name of a type has its number of arguments, and no
-- synonym leads to itself.
abbrev pub ModulesDeclareTypes : Type 0
ModulesDeclareTypes =
    (held : Folder) (root : List ℕ) (modules : List Named) (names : List (List ℕ))
    (program : Kernel)
    (interface : List TypeExpr) (flat : Program)
    → ModulesCompile held root modules names program interface flat → DeclaresTypes program

-- In every program that a goal in a module comes to, each name of a type has its number of
-- arguments, and no synonym leads to itself.
abbrev pub GoalsDeclareTypes : Type 0
GoalsDeclareTypes =
    (held : Folder) (root text : List ℕ) (names : List (List ℕ)) (program : Kernel) (flat : Program)
    → Compiles held root text names program flat → DeclaresTypes program
