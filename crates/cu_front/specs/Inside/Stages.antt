-- What the stages after the walk over the modules come to.
use Rattle.std.specs.Prelude.{◌≡◌, ◌⊎◌, ℕ, List, [], Option, None, Some, Result, Ok, IfErr, IfOk}
use Rattle.std.specs.List.{All}
use Rattle.cu_calculus.specs.Program as calculus
use Rattle.cu_kernel.specs.Kernel.{Kernel}
use Rattle.cu_kernel.specs.LocalKernel.{LocalKernel}
use Rattle.cu_kernel.specs.TypeExpr.{TypeExpr}
use Rattle.cu_names.specs.Texts.{IsKnown}
use Rattle.cu_syntax.specs.Answer.{goal_meaning}
use Rattle.cu_syntax.specs.declared.text.GoalText.{GoalText}
use Rattle.cu_syntax.specs.Syntax.{Goal}
use Rattle.cu_modules.specs.declared.fault.OrderFault.{OrderFault}
use Rattle.cu_modules.specs.declared.fault.OrderFault.TheVariants as order
use Rattle.cu_modules.specs.declared.scope_fault.ScopeFault.{ScopeFault}
use Rattle.cu_modules.specs.declared.scope_fault.ScopeFault.TheVariants as scope
use Rattle.cu_modules.specs.Means.{AreScoped, IsGoalScoped}
use Rattle.cu_modules.specs.Scopes.{Named}
use Rattle.cu_modules.specs.Walk.{Walk}
use Rattle.cu_declared.specs.declared.fault.TypeArity.{TypeArity}
use Rattle.cu_declared.specs.declared.fault.TypeArity.TheVariants as arity
use Rattle.cu_declared.specs.declared.fault.TypeNameFault.{TypeNameFault}
use Rattle.cu_declared.specs.declared.fault.TypeNameFault.TheVariants as type_names
use Rattle.cu_declared.specs.TypeFaults as type_faults
use Rattle.cu_declared.specs.TypeFaults.{AreRight, IsGoalRight}
use Rattle.cu_translation.specs.Parts.{goal_part}
use Rattle.cu_translation.specs.Translation as translation
use Rattle.cu_translation.specs.Translation.{goal_translation}
use Rattle.cu_translation.specs.Functions.{goal_name}
use Rattle.cu_uses.specs.Faults as uses
use Rattle.cu_front.specs.Compiling.{Compiles, GoalRefused, Folder, ModulesCompile}
use Rattle.cu_front.specs.Compiling.{ModulesRefused, RequestRefused, whole_program}
use Rattle.cu_front.specs.declared.fault.CompileFault.{CompileFault}
use Rattle.cu_front.specs.declared.fault.CompileFault.TheVariants as answer
use Rattle.cu_front.specs.declared.fault.StageFault.{StageFault}
use Rattle.cu_front.specs.declared.fault.StageFault.TheVariants as stage
use Rattle.cu_front.specs.declared.outcome.Outcome.{Outcome}
use Rattle.cu_front.specs.declared.outcome.Outcome.TheVariants as outcome
use Rattle.cu_front.specs.declared.programs.Programs.{Programs}
use Rattle.cu_front.specs.declared.refusal.Refusal as code
use Rattle.cu_front.specs.declared.refusal.Refusal.TheVariants as told
use Rattle.cu_front.specs.GoalTexts.{GoalIsRead}
use Rattle.cu_front.specs.Names.{IsGoalTable, IsTable}
use Rattle.cu_front.specs.Refusal.{InNames, Refusal, in_functions, in_types}
use Rattle.cu_front.specs.RefusalMeaning.{PlaceIsKnown, RefusalIsKnown, refusal_meaning}
use Rattle.cu_front.specs.Inside.StageFaults.{IsUnread, Tells}
use Rattle.cu_front.specs.Translated.{modules_program, translation_refusal}

-- ---- answers for faults

-- the fault of a stage for a fault of names
abbrev pub fault_of_scope : ScopeFault → StageFault
fault_of_scope (scope.NotExported place id) = stage.Refused (told.NotExported place id)
fault_of_scope (scope.UnknownName place id) = stage.Refused (told.UnknownName place id)
fault_of_scope (scope.Ambiguous place id) = stage.Refused (told.Ambiguous place id)
fault_of_scope (scope.Duplicate place id) = stage.Refused (told.Duplicate place id)
fault_of_scope scope.NoMemory = stage.NoMemory

-- the fault of a stage for a fault of the types of modules
abbrev pub fault_of_types : TypeNameFault → StageFault
fault_of_types (type_names.TypeArity place) = stage.Refused (told.TypeArity place)
fault_of_types (type_names.SynonymCycle id) = stage.Refused (told.SynonymCycle id)
fault_of_types type_names.NoMemory = stage.NoMemory

-- the fault of a stage for a fault of the types of a goal
abbrev pub fault_of_goal_types : TypeArity → StageFault
fault_of_goal_types (arity.At place) = stage.Refused (told.TypeArity place)
fault_of_goal_types arity.NoMemory = stage.NoMemory

-- the answer of the front end for a fault of a stage
abbrev pub answer_of : StageFault → CompileFault
answer_of (stage.Refused refusal) = answer.Refused refusal
answer_of stage.NoMemory = answer.NoMemory

-- The answer tells this refusal where the refusal's names are known, and else is an allocation
-- failure.
abbrev pub IsToldIf : Type 0 → code.Refusal → CompileFault → Type 0
IsToldIf Known refusal result =
    ((result ≡ answer.Refused refusal) × Known) ⊎ (result ≡ answer.NoMemory)

-- The answer is that for a fault of the walk over the modules.
abbrev pub IsWalkAnswer : List (List ℕ) → OrderFault → CompileFault → Type 0
IsWalkAnswer names (order.MissingModule id) = IsToldIf (IsKnown names id) (told.MissingModule id)
IsWalkAnswer names (order.SourceTooBig id) = IsToldIf (IsKnown names id) (told.SourceTooBig id)
IsWalkAnswer names (order.NotUtf8 id offset) = IsToldIf (IsKnown names id) (told.NotUtf8 id offset)
IsWalkAnswer names (order.BadToken place) =
    IsToldIf (PlaceIsKnown names place) (told.BadToken place)
IsWalkAnswer names (order.LiteralRange place) =
    IsToldIf (PlaceIsKnown names place) (told.LiteralRange place)
IsWalkAnswer names (order.TooDeep place) = IsToldIf (PlaceIsKnown names place) (told.TooDeep place)
IsWalkAnswer names (order.TooLong id line) = IsToldIf (IsKnown names id) (told.TooLong id line)
IsWalkAnswer names (order.Syntax id line) = IsToldIf (IsKnown names id) (told.Syntax id line)
IsWalkAnswer names (order.HeaderName id) = IsToldIf (IsKnown names id) (told.HeaderName id)
IsWalkAnswer names (order.ImportCycle ids) =
    IsToldIf (All (IsKnown names) ids.items) (told.ImportCycle ids)
IsWalkAnswer names (order.TooManyModules id) = IsToldIf (IsKnown names id) (told.TooManyModules id)
IsWalkAnswer names order.Fetch = λ result. result ≡ answer.Fetch
IsWalkAnswer names order.NoMemory = λ result. result ≡ answer.NoMemory

-- The refusal is one for a fault of names with the property P.
pub record IsInNames (P : List ℕ → uses.Fault → Type 0) (refusal : Refusal) : Type 0 where
  pub owner : List ℕ
  pub fault : uses.Fault
  pub wrong : P owner fault
  pub is : refusal ≡ InNames owner fault

-- The refusal is one for a fault of types with the property P.
pub record IsInTypes (P : List ℕ → type_faults.Fault → Type 0) (refusal : Refusal) : Type 0 where
  pub owner : List ℕ
  pub fault : type_faults.Fault
  pub wrong : P owner fault
  pub is : refusal ≡ in_types owner fault

-- ---- modules, wherever they are held

-- The modules that the root reaches are refused, for this reason, whatever folder holds them.
abbrev pub RefusesModules : List Named → List ℕ → Refusal → Type 0
RefusesModules modules root refusal =
    (held : Folder) → Walk held root (Ok modules) → ModulesRefused held root refusal

-- The modules that the root reaches come to this program, with these types, whatever folder holds
-- them.
abbrev pub CompileAlone : List Named → List ℕ → List (List ℕ) → Kernel → List TypeExpr
    → calculus.Program → Type 0
CompileAlone modules root names program interface flat =
    (held : Folder) → Walk held root (Ok modules)
    → ModulesCompile held root modules names program interface flat

-- The modules, or a goal in the root, are refused, for this reason, whatever folder holds them.
abbrev pub RefusesBoth : List Named → List ℕ → List ℕ → Refusal → Type 0
RefusesBoth modules root text refusal =
    (held : Folder) → Walk held root (Ok modules) → RequestRefused held root text refusal

-- The modules and a goal in the root come to this program, whatever folder holds them.
abbrev pub CompileBoth :
    List Named → List ℕ → List ℕ → List (List ℕ) → Kernel → calculus.Program → Type 0
CompileBoth modules root text names program flat =
    (held : Folder) → Walk held root (Ok modules) → Compiles held root text names program flat

-- ---- before lifting

-- the refusal that the translation of a text tells, where it tells one
abbrev pub told_by : List ℕ → translation.Outcome → Option Refusal
told_by owner (translation.Translated part) = None
told_by owner (translation.Refused fault) = Some (in_functions owner fault)

-- the refusal of a goal in the module of a number, where its translation tells one
unfoldable pub goal_told : List (List ℕ) → List Named → ℕ → Goal → Option Refusal
goal_told names modules k goal = told_by goal_name (goal_translation names modules k goal)

-- the part that a goal in the module of a number is translated to
unfoldable pub part_of_goal : List (List ℕ) → List Named → ℕ → Goal → LocalKernel
part_of_goal names modules k goal = goal_part names modules k goal

-- What was found is what a goal's text is read as, under a table that has the goal's names.
pub record IsGoalRead (names : List (List ℕ)) (text : List ℕ) (found : Result GoalText StageFault)
    : Type 0 where
  pub read : IfOk found (λ goal. GoalIsRead text (Ok (goal_meaning names goal)))
  pub unread : IfErr found (Tells names (IsUnread goal_name text))

-- A goal in the module of a number is translated, and the program is that of the modules with the
-- goal's part after it.
pub record IsTranslated (names : List (List ℕ)) (modules : List Named) (k : ℕ) (text : List ℕ)
    (program : LocalKernel) : Type 0 where
  pub goal : Goal
  pub read : GoalIsRead text (Ok goal)
  pub scoped : IsGoalScoped modules k goal
  pub types : IsGoalRight modules k goal
  pub is_table : IsGoalTable modules goal names
  pub translated : goal_translation names modules k goal
      ≡ translation.Translated (goal_part names modules k goal)
  pub is : program ≡ whole_program names modules k goal

-- The outcome is the program of modules and a goal, or tells why the goal is refused.
abbrev pub IsWhole : List (List ℕ) → List Named → ℕ → List ℕ → Outcome → Type 0
IsWhole names modules k text (outcome.Program program) = IsTranslated names modules k text program
IsWhole names modules k text (outcome.Refused refusal) =
    GoalRefused modules k text (refusal_meaning names refusal) × RefusalIsKnown names refusal

-- The programs are that of the modules, and that of the modules and a goal in the module of a
-- number.
pub record ArePrograms (names : List (List ℕ)) (modules : List Named) (k : ℕ) (text : List ℕ)
    (found : Programs) : Type 0 where
  pub scoped : AreScoped [] modules
  pub types : AreRight modules
  pub is_table : IsTable modules names
  pub translated : translation_refusal names modules ≡ None
  pub alone : found.modules ≡ modules_program names modules
  pub whole : IsWhole names modules k text found.whole

-- The program is that of the modules before lifting, of which nothing is refused so far.
pub record AreTranslated (names : List (List ℕ)) (modules : List Named) (program : LocalKernel)
    : Type 0 where
  pub scoped : AreScoped [] modules
  pub types : AreRight modules
  pub is_table : IsTable modules names
  pub translated : translation_refusal names modules ≡ None
  pub is : program ≡ modules_program names modules
