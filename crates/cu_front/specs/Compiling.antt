-- What modules and a goal come to: a refusal, the first by the order of the stages, or a program.
use Rattle.std.specs.Prelude.{◌≡◌, ℕ, List, [], Option, None, Some, Ok, Err}
use Rattle.std.specs.List.{position_or_len}
use Rattle.cu_calculus.specs.Program as calculus
use Rattle.cu_kernel.specs.Kernel.{Kernel}
use Rattle.cu_kernel.specs.LocalKernel.{LocalKernel, joined}
use Rattle.cu_kernel.specs.TypeExpr.{TypeExpr}
use Rattle.cu_syntax.specs.Syntax.{Goal}
use Rattle.cu_modules.specs.Means.{AreScoped, IsGoalScoped, IsGoalWrong, IsWrong}
use Rattle.cu_modules.specs.Scopes.{Named}
use Rattle.cu_modules.specs.Texts.{TextFault}
use Rattle.cu_modules.specs.Walk as modules_walk
use Rattle.cu_modules.specs.Walk.{InText, Walk, has_name}
use Rattle.cu_declared.specs.TypeFaults as type_faults
use Rattle.cu_declared.specs.TypeFaults.{AreRight, IsGoalRight}
use Rattle.cu_translation.specs.FaultOrder.{Fault}
use Rattle.cu_translation.specs.Parts.{goal_part}
use Rattle.cu_translation.specs.Translation as translation
use Rattle.cu_translation.specs.Translation.{goal_translation}
use Rattle.cu_translation.specs.Functions.{goal_name}
use Rattle.cu_uses.specs.Faults as uses
use Rattle.cu_front.specs.GoalTexts.{GoalIsRead}
use Rattle.cu_front.specs.Names.{IsGoalTable, IsTable}
use Rattle.cu_front.specs.Programs.{CanRun, CannotRun, IsLifted}
use Rattle.cu_front.specs.Refusal.{InNames, Refusal, Walked, in_functions, in_types}
use Rattle.cu_front.specs.Translated.{modules_program, translation_refusal}

-- a folder of modules: the text of the module of a name, where the folder has one
abbrev pub Folder : Type 0
Folder = List ℕ → Option (List ℕ)

-- ---- modules

-- The modules that a root reaches are refused, for this reason.
pub data ModulesRefused (held : Folder) (root : List ℕ) : Refusal → Type 0 where
  walk : (refusal : modules_walk.Refusal) → Walk held root (Err refusal)
      → ModulesRefused held root (Walked refusal)
  names : (modules : List Named) (owner : List ℕ) (fault : uses.Fault)
      → Walk held root (Ok modules) → IsWrong modules owner fault
      → ModulesRefused held root (InNames owner fault)
  types : (modules : List Named) (owner : List ℕ) (fault : type_faults.Fault)
      → Walk held root (Ok modules) → AreScoped [] modules → type_faults.IsWrong modules owner fault
      → ModulesRefused held root (in_types owner fault)
  functions : (modules : List Named) (table : List (List ℕ)) (refusal : Refusal)
      → Walk held root (Ok modules) → AreScoped [] modules → AreRight modules
      → IsTable modules table → translation_refusal table modules ≡ Some refusal
      → ModulesRefused held root refusal
  program : (modules : List Named) (table names : List (List ℕ)) (program : Kernel)
      (refusal : Refusal)
      → Walk held root (Ok modules) → AreScoped [] modules → AreRight modules
      → IsTable modules table → translation_refusal table modules ≡ None
      → IsLifted table (modules_program table modules) names program
      → CannotRun names program refusal → ModulesRefused held root refusal

-- The root reaches these modules, none of which is refused. They come to this program, with its
-- table of names, the types of its functions, and its flat program.
pub record ModulesCompile (held : Folder) (root : List ℕ) (modules : List Named)
    (names : List (List ℕ)) (program : Kernel) (interface : List TypeExpr)
    (flat : calculus.Program) : Type 0 where
  pub walked : Walk held root (Ok modules)
  pub scoped : AreScoped [] modules
  pub types : AreRight modules
  pub table : List (List ℕ)
  pub is_table : IsTable modules table
  pub translated : translation_refusal table modules ≡ None
  pub lifted : IsLifted table (modules_program table modules) names program
  pub can_run : CanRun program interface flat

-- The modules that the root reaches come to this program, with its table of names, the types of its
-- functions, and its flat program.
pub record RootCompiles (held : Folder) (root : List ℕ) (names : List (List ℕ))
    (program : Kernel) (interface : List TypeExpr) (flat : calculus.Program) : Type 0 where
  pub modules : List Named
  pub compile : ModulesCompile held root modules names program interface flat

-- The root reaches these modules, of which nothing is refused.
pub record AreCompiled (held : Folder) (root : List ℕ) (modules : List Named) : Type 0 where
  pub names : List (List ℕ)
  pub program : Kernel
  pub interface : List TypeExpr
  pub flat : calculus.Program
  pub compile : ModulesCompile held root modules names program interface flat

-- ---- goals

-- the number of the root among the modules
abbrev pub root_in : List Named → List ℕ → ℕ
root_in modules root = position_or_len (has_name root) modules

-- the program before lifting of modules and of a goal in the module of number k
unfoldable pub whole_program : List (List ℕ) → List Named → ℕ → Goal → LocalKernel
whole_program table modules k goal =
    joined (modules_program table modules) (goal_part table modules k goal)

-- A goal in the module of number k is refused, for this reason.
pub data GoalRefused (modules : List Named) (k : ℕ) (text : List ℕ) : Refusal → Type 0 where
  unread : (fault : TextFault) → GoalIsRead text (Err fault)
      → GoalRefused modules k text (Walked (InText goal_name fault))
  names : (goal : Goal) (fault : uses.Fault) → GoalIsRead text (Ok goal)
      → IsGoalWrong modules k goal fault → GoalRefused modules k text (InNames goal_name fault)
  types : (goal : Goal) (fault : type_faults.Fault) → GoalIsRead text (Ok goal)
      → IsGoalScoped modules k goal → type_faults.IsGoalWrong modules k goal fault
      → GoalRefused modules k text (in_types goal_name fault)
  functions : (goal : Goal) (table : List (List ℕ)) (fault : Fault)
      → GoalIsRead text (Ok goal) → IsGoalScoped modules k goal → IsGoalRight modules k goal
      → IsGoalTable modules goal table
      → goal_translation table modules k goal ≡ translation.Refused fault
      → GoalRefused modules k text (in_functions goal_name fault)
  program : (goal : Goal) (table names : List (List ℕ)) (program : Kernel) (refusal : Refusal)
      → GoalIsRead text (Ok goal) → IsGoalScoped modules k goal → IsGoalRight modules k goal
      → IsGoalTable modules goal table
      → goal_translation table modules k goal
      ≡ translation.Translated (goal_part table modules k goal)
      → IsLifted table (whole_program table modules k goal) names program
      → CannotRun names program refusal → GoalRefused modules k text refusal

-- Nothing is refused of a goal in the module of number k, and the modules and the goal come to this
-- program, with its table of names and its flat program.
pub record GoalCompiles (modules : List Named) (k : ℕ) (text : List ℕ) (names : List (List ℕ))
    (program : Kernel) (flat : calculus.Program) : Type 0 where
  pub goal : Goal
  pub read : GoalIsRead text (Ok goal)
  pub scoped : IsGoalScoped modules k goal
  pub types : IsGoalRight modules k goal
  pub table : List (List ℕ)
  pub is_table : IsGoalTable modules goal table
  pub translated : goal_translation table modules k goal
      ≡ translation.Translated (goal_part table modules k goal)
  pub lifted : IsLifted table (whole_program table modules k goal) names program
  pub interface : List TypeExpr
  pub can_run : CanRun program interface flat

-- ---- both

-- A goal in a module is refused, for this reason: one of the modules that the root reaches, or one
-- of the goal itself.
pub data RequestRefused (held : Folder) (root text : List ℕ) : Refusal → Type 0 where
  by_modules : (refusal : Refusal) → ModulesRefused held root refusal
      → RequestRefused held root text refusal
  by_goal : (modules : List Named) (refusal : Refusal) → AreCompiled held root modules
      → GoalRefused modules (root_in modules root) text refusal
      → RequestRefused held root text refusal

-- A goal in a module comes to this program, with its table of names and its flat program.
pub record Compiles (held : Folder) (root text : List ℕ) (names : List (List ℕ))
    (program : Kernel) (flat : calculus.Program) : Type 0 where
  pub modules : List Named
  pub are_modules : AreCompiled held root modules
  pub is_goal : GoalCompiles modules (root_in modules root) text names program flat
