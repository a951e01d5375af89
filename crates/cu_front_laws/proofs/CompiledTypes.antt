-- Programs that modules, and goals in them, come to declare their types as inference asks.
use Rattle.std.specs.Prelude.{◌≡◌, ◌<◌, ◌-◌, ℕ, List, ◌∷◌, length, Result, Ok, Err, IfOk}
use Rattle.std.proofs.Common.{ap, arith, subst, ◌∙◌}
use Rattle.std.proofs.lemmas.Option.{slice_get_within}
use Rattle.cu_calculus.specs.Program.{Program}
use Rattle.cu_front.specs.Compiling.{Compiles, Folder, ModulesCompile, root_in, whole_program}
use Rattle.cu_front.specs.GoalTexts as texts
use Rattle.cu_front.specs.GoalTexts.{GoalIsRead, read_as}
use Rattle.cu_front.specs.Translated.{modules_program, program_upto}
use Rattle.cu_kernel.specs.Kernel.{Kernel}
use Rattle.cu_kernel.specs.LocalKernel.{joined}
use Rattle.cu_kernel.specs.TypeExpr.{TypeExpr}
use Rattle.cu_lift.specs.Lifting.{Locals, lifted}
use Rattle.cu_modules.specs.Means.{IsGoalScoped}
use Rattle.cu_modules.specs.Scopes.{Named}
use Rattle.cu_modules.specs.Texts.{TextFault}
use Rattle.cu_declared.specs.TypeFaults.{IsGoalRight}
use Rattle.cu_syntax.specs.Parsing as parsing
use Rattle.cu_syntax.specs.Syntax.{Goal}
use Rattle.cu_translation.specs.Parts.{goal_part}
use Rattle.cu_types.specs.Synonyms.{DeclaresTypes}
use Rattle.cu_front.specs.Programs.{IsLifted}
use Rattle.cu_front_laws.specs.DeclaredTypes.{HasRightTypes, HaveRightTypes}
use Rattle.cu_front_laws.proofs.AcceptedTypes.{Accepted, accepted}
use Rattle.cu_front_laws.proofs.ReadModules.{GoalIsNarrow, goal_right}
use Rattle.cu_front_laws.proofs.WholePrograms.{goals_declare, modules_declare}

-- the program of modules, of which one is the first
all_parts : (table : List (List ℕ)) (p : Named) (ms : List Named) → modules_program table (p ∷ ms) ≡ program_upto table (p ∷ ms) (length ms)
unfolding modules_program
all_parts table p ms =
    let last : length (p ∷ ms) - 1 ≡ length ms = omega arith in
    ap (program_upto table (p ∷ ms)) last

whole_parts : (table : List (List ℕ)) (p : Named) (ms : List Named) (k : ℕ) (goal : Goal)
    → whole_program table (p ∷ ms) k goal ≡ joined (program_upto table (p ∷ ms) (length ms)) (goal_part table (p ∷ ms) k goal)
unfolding whole_program
whole_parts table p ms k goal = ap (λ program. joined program (goal_part table (p ∷ ms) k goal)) (all_parts table p ms)

-- ---- modules

modules_meet : (table : List (List ℕ)) (modules : List Named) (locals : Locals) (program : Kernel) → Accepted modules
    → program ≡ lifted locals (modules_program table modules) → DeclaresTypes program
modules_meet table modules locals program a whole =
    modules_declare table a.first a.others locals program a.are
    (subst (λ (ms : List Named). program ≡ lifted locals (modules_program table ms)) a.all whole
    ∙ ap (lifted locals) (all_parts table a.first a.others))

pub right_modules_declare : (held : Folder) (root : List ℕ) (modules : List Named) (table names : List (List ℕ)) (program : Kernel)
    → HaveRightTypes held root modules → IsLifted table (modules_program table modules) names program → DeclaresTypes program
right_modules_declare held root modules table names program are is =
    modules_meet table modules is.lifts.locals program (accepted held root modules are.walked are.scoped are.right) is.lifts.whole

pub modules_declare_types : (held : Folder) (root : List ℕ) (modules : List Named) (names : List (List ℕ)) (program : Kernel)
    (interface : List TypeExpr) (flat : Program)
    → ModulesCompile held root modules names program interface flat → DeclaresTypes program
modules_declare_types held root modules names program interface flat compile =
    right_modules_declare held root modules compile.table names program
    (record { walked = compile.walked; scoped = compile.scoped; right = compile.types }) compile.lifted

-- ---- goals

read_narrow : (outcome : Result Goal parsing.Fault) → IfOk outcome GoalIsNarrow → IfOk (read_as outcome) GoalIsNarrow
read_narrow (Ok goal) narrow = narrow
read_narrow (Err fault) narrow = tt

goal_narrow : (text : List ℕ) (outcome : Result Goal TextFault) → GoalIsRead text outcome → IfOk outcome GoalIsNarrow
goal_narrow text outcome (texts.no_tokens fault is) = tt
goal_narrow text outcome (texts.too_deep found number token is deep at) = tt
goal_narrow text _ (texts.read found laid outcome is are read) = read_narrow outcome (goal_right text found laid outcome is are read)

goal_meets : (table : List (List ℕ)) (modules : List Named) (k : ℕ) (goal : Goal) (locals : Locals) (program : Kernel) → Accepted modules
    → k < length modules
    → IsGoalScoped modules k goal → IsGoalRight modules k goal → GoalIsNarrow goal → program ≡ lifted locals (whole_program table modules k goal)
    → DeclaresTypes program
goal_meets table modules k goal locals program a within scoped right narrow whole =
    goals_declare table a.first a.others k goal locals program a.are
    (subst (λ (ms : List Named). k < length ms) a.all within)
    (subst (λ (ms : List Named). IsGoalScoped ms k goal) a.all scoped)
    (subst (λ (ms : List Named). IsGoalRight ms k goal) a.all right) narrow
    (subst (λ (ms : List Named). program ≡ lifted locals (whole_program table ms k goal)) a.all whole
    ∙ ap (lifted locals) (whole_parts table a.first a.others k goal))

pub right_goals_declare : (held : Folder) (root : List ℕ) (modules : List Named) (k : ℕ) (text : List ℕ) (goal : Goal)
    (table names : List (List ℕ)) (program : Kernel)
    → HaveRightTypes held root modules → HasRightTypes modules k text goal
    → IsLifted table (whole_program table modules k goal) names program → DeclaresTypes program
right_goals_declare held root modules k text goal table names program are has is =
    goal_meets table modules k goal is.lifts.locals program
    (accepted held root modules are.walked are.scoped are.right)
    (slice_get_within modules k has.scoped.m has.scoped.is_there)
    has.scoped has.right (goal_narrow text (Ok goal) has.read) is.lifts.whole

pub goals_declare_types : (held : Folder) (root text : List ℕ) (names : List (List ℕ)) (program : Kernel) (flat : Program)
    → Compiles held root text names program flat → DeclaresTypes program
goals_declare_types held root text names program flat compiles =
    let compile = compiles.are_modules.compile in
    let is = compiles.is_goal in
    right_goals_declare held root compiles.modules (root_in compiles.modules root) text is.goal is.table names program
    (record { walked = compile.walked; scoped = compile.scoped; right = compile.types })
    (record { read = is.read; scoped = is.scoped; right = is.types }) is.lifted
