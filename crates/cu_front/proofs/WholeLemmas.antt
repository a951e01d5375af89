-- Programs of modules and a goal that are run, or why they aren't.
use Rattle.std.proofs.Common.{◌≡◌, ◌∙◌, ℕ, List, Ok, Err, IfErr, IfOk, Result, sym, subst}
use Rattle.cu_calculus.specs.FlatProgram.{program_of}
use Rattle.cu_calculus.specs.Program as calculus
use Rattle.cu_kernel.specs.Kernel.{Kernel}
use Rattle.cu_kernel.specs.LocalKernel.{LocalKernel}
use Rattle.cu_kernel.specs.TypeExpr.{TypeExpr}
use Rattle.cu_names.proofs.Growth.{extends-trans}
use Rattle.cu_names.specs.Texts.{Extends}
use Rattle.cu_modules.specs.Scopes.{Named}
use Rattle.cu_modules.specs.Walk.{Walk}
use Rattle.cu_front.specs.Compiling as meant
use Rattle.cu_front.specs.Compiling.{AreCompiled, GoalCompiles, GoalRefused, RequestRefused, root_in, whole_program}
use Rattle.cu_front.specs.declared.fault.StageFault.{StageFault}
use Rattle.cu_front.specs.declared.fault.StageFault.TheVariants as stage
use Rattle.cu_front.specs.declared.outcome.Outcome as code
use Rattle.cu_front.specs.declared.outcome.Outcome.TheVariants as found
use Rattle.cu_front.specs.declared.programs.Programs.{Programs}
use Rattle.cu_front.specs.declared.refusal.Refusal as told
use Rattle.cu_front.specs.declared.runnable.Compiled.{Compiled}
use Rattle.cu_front.specs.Inside.Stages.{ArePrograms, CompileBoth, IsWhole, RefusesBoth}
use Rattle.cu_front.specs.Programs.{CanRun, IsLifted}
use Rattle.cu_front.specs.Inside.Runnable.{IsNotRunnable}
use Rattle.cu_front.specs.Inside.StageFaults.{Tells}
use Rattle.cu_front.proofs.GrowthLemmas.{stays}
use Rattle.cu_front.proofs.RunLemmas.{tells_weaker}

-- ---- modules alone

pub modules_not_run : (table names : List (List ℕ)) (modules : List Named) (root text : List ℕ) (programs : Programs) (local : LocalKernel)
    (fault : StageFault) → local ≡ programs.modules → ArePrograms table modules (root_in modules root) text programs
    → Tells names (IsNotRunnable table local names) fault → Tells names (RefusesBoth modules root text) fault
modules_not_run table names modules root text programs local fault same are is =
    tells_weaker names (IsNotRunnable table local names) (RefusesBoth modules root text) fault
    (λ refusal r held walk.
    let lifted = subst (λ (p : LocalKernel). IsLifted table p names r.program) (same ∙ are.alone) r.lifted in
    meant.RequestRefused.by_modules refusal
    (meant.ModulesRefused.program modules table names r.program refusal walk are.scoped are.types are.is_table are.translated lifted
    r.cannot_run)) is

-- what is known of modules whose program can be run
pub record CanRunAlone (table names : List (List ℕ)) (local : LocalKernel) : Type 0 where
  pub program : Kernel
  pub interface : List TypeExpr
  pub flat : calculus.Program
  pub lifted : IsLifted table local names program
  pub can_run : CanRun program interface flat

pub are_modules : (table names : List (List ℕ)) (modules : List Named) (root text : List ℕ) (programs : Programs) (local : LocalKernel)
    (held : meant.Folder) → local ≡ programs.modules → ArePrograms table modules (root_in modules root) text programs → CanRunAlone table names local
    → Walk held root (Ok modules) → AreCompiled held root modules
are_modules table names modules root text programs local held same are alone walk = record {
  names = names;
  program = alone.program;
  interface = alone.interface;
  flat = alone.flat;
  compile = record {
    walked = walk;
    scoped = are.scoped;
    types = are.types;
    table = table;
    is_table = are.is_table;
    translated = are.translated;
    lifted = subst (λ (p : LocalKernel). IsLifted table p names alone.program) (same ∙ are.alone) alone.lifted;
    can_run = alone.can_run;
  };
}

-- ---- a goal

pub goal_not_translated : (table names : List (List ℕ)) (modules : List Named) (k : ℕ) (text : List ℕ) (whole : code.Outcome)
    (refusal : told.Refusal) → whole ≡ found.Refused refusal → Extends table names → IsWhole table modules k text whole
    → Tells names (GoalRefused modules k text) (stage.Refused refusal)
goal_not_translated table names modules k text whole refusal is grown are =
    let refused = subst (IsWhole table modules k text) is are in
    let stay = stays table names grown refusal refused.1 in
    (subst (GoalRefused modules k text) (sym stay.0) refused.0, stay.1)

lifted_from : (table old names : List (List ℕ)) (local : LocalKernel) (program : Kernel) → Extends table old → IsLifted old local names program
    → IsLifted table local names program
lifted_from table old names local program grown lifted =
    record { more = extends-trans grown lifted.more; differ = lifted.differ; lifts = lifted.lifts }

pub goal_not_run : (table old names : List (List ℕ)) (modules : List Named) (k : ℕ) (text : List ℕ) (whole : code.Outcome)
    (program : LocalKernel) (fault : StageFault) → whole ≡ found.Program program → Extends table old → IsWhole table modules k text whole
    → Tells names (IsNotRunnable old program names) fault → Tells names (GoalRefused modules k text) fault
goal_not_run table old names modules k text whole program fault is grown are told =
    let goal = subst (IsWhole table modules k text) is are in
    tells_weaker names (IsNotRunnable old program names) (GoalRefused modules k text) fault
    (λ refusal r.
    let lifted =
    lifted_from table old names (whole_program table modules k goal.goal) r.program grown
    (subst (λ (p : LocalKernel). IsLifted old p names r.program) goal.is r.lifted) in
    meant.GoalRefused.program goal.goal table names r.program refusal goal.read goal.scoped goal.types goal.is_table goal.translated lifted
    r.cannot_run) told

pub goal_compiles : (table old names : List (List ℕ)) (modules : List Named) (k : ℕ) (text : List ℕ) (whole : code.Outcome)
    (program : LocalKernel) (result : Kernel) (interface : List TypeExpr) (flat : calculus.Program) → whole ≡ found.Program program
    → Extends table old → IsWhole table modules k text whole → IsLifted old program names result → CanRun result interface flat
    → GoalCompiles modules k text names result flat
goal_compiles table old names modules k text whole program result interface flat is grown are lifted can_run =
    let goal = subst (IsWhole table modules k text) is are in
    record {
      goal = goal.goal;
      read = goal.read;
      scoped = goal.scoped;
      types = goal.types;
      table = table;
      is_table = goal.is_table;
      translated = goal.translated;
      lifted =
          lifted_from table old names (whole_program table modules k goal.goal) result grown
          (subst (λ (p : LocalKernel). IsLifted old p names result) goal.is lifted);
      interface = interface;
      can_run = can_run;
    }

-- ---- a goal in modules that the root reaches

pub both_compile : (names : List (List ℕ)) (modules : List Named) (root text : List ℕ) (result : Result Compiled StageFault)
    → ((held : meant.Folder) → Walk held root (Ok modules) → AreCompiled held root modules)
    → IfOk result (λ c. GoalCompiles modules (root_in modules root) text names c.program (program_of c.flat))
    → IfOk result (λ c. CompileBoth modules root text names c.program (program_of c.flat))
both_compile names modules root text (Ok c) are is =
    λ held walk. record { modules = modules; are_modules = are held walk; is_goal = is }
both_compile names modules root text (Err fault) are is = tt

pub both_not_run : (names : List (List ℕ)) (modules : List Named) (root text : List ℕ) (result : Result Compiled StageFault)
    → ((held : meant.Folder) → Walk held root (Ok modules) → AreCompiled held root modules)
    → IfErr result (Tells names (GoalRefused modules (root_in modules root) text)) → IfErr result (Tells names (RefusesBoth modules root text))
both_not_run names modules root text (Ok c) are is = tt
both_not_run names modules root text (Err fault) are is =
    tells_weaker names (GoalRefused modules (root_in modules root) text) (RefusesBoth modules root text) fault
    (λ refusal r held walk. meant.RequestRefused.by_goal modules refusal (are held walk) r) is
