-- The program of modules without a goal.
use Rattle.std.proofs.Common.{◌≡◌, List, [], None, Some, Ok, Err, IfErr, IfOk, Result, subst, ℕ}
use Rattle.cu_calculus.specs.FlatProgram.{program_of}
use Rattle.cu_declared.specs.TypeFaults.{AreRight}
use Rattle.cu_kernel.specs.LocalKernel.{LocalKernel}
use Rattle.cu_modules.specs.Means.{AreScoped}
use Rattle.cu_modules.specs.Scopes.{Named}
use Rattle.cu_modules.specs.Walk as walk
use Rattle.cu_modules.specs.Walk.{Walk}
use Rattle.cu_front.specs.Compiling as meant
use Rattle.cu_front.specs.Compiling.{Folder, RootCompiles, ModulesRefused}
use Rattle.cu_front.specs.declared.fault.StageFault.{StageFault}
use Rattle.cu_front.specs.declared.runnable.Compiled.{Compiled}
use Rattle.cu_front.specs.Inside.Stages.{AreTranslated, CompileAlone, RefusesModules}
use Rattle.cu_front.specs.Names.{IsTable}
use Rattle.cu_front.specs.Programs.{CanRun, IsLifted}
use Rattle.cu_front.specs.Refusal.{Walked}
use Rattle.cu_front.specs.Inside.Runnable.{IsNotRunnable}
use Rattle.cu_front.specs.Inside.StageFaults.{Tells}
use Rattle.cu_front.specs.Translated.{modules_program, translation_refusal}
use Rattle.cu_front.proofs.RunLemmas.{tells_weaker}
use Rattle.cu_front.proofs.StageLemmas.{modules_refused}

pub walk_refuses_modules : (root : List ℕ) (held : Folder) (refusal : walk.Refusal) → Walk held root (Err refusal)
    → ModulesRefused held root (Walked refusal)
walk_refuses_modules root held refusal is = meant.ModulesRefused.walk refusal is

pub alone_compiles : (table names : List (List ℕ)) (modules : List Named) (root : List ℕ) (local : LocalKernel)
    (result : Result Compiled StageFault) → AreTranslated table modules local
    → IfOk result (λ found. IsLifted table local names found.program)
    → IfOk result (λ found. CanRun found.program found.interface (program_of found.flat))
    → IfOk result (λ found. CompileAlone modules root names found.program found.interface (program_of found.flat))
alone_compiles table names modules root local (Ok found) are lifted can_run = λ held walked. record {
  walked = walked;
  scoped = are.scoped;
  types = are.types;
  table = table;
  is_table = are.is_table;
  translated = are.translated;
  lifted = subst (λ (p : LocalKernel). IsLifted table p names found.program) are.is lifted;
  can_run = can_run;
}
alone_compiles table names modules root local (Err fault) are lifted can_run = tt

pub alone_not_run : (table names : List (List ℕ)) (modules : List Named) (root : List ℕ) (local : LocalKernel)
    (result : Result Compiled StageFault) → AreTranslated table modules local
    → IfErr result (Tells names (IsNotRunnable table local names)) → IfErr result (Tells names (RefusesModules modules root))
alone_not_run table names modules root local (Ok found) are is = tt
alone_not_run table names modules root local (Err fault) are is =
    tells_weaker names (IsNotRunnable table local names) (RefusesModules modules root) fault
    (λ refusal r held walked.
    meant.ModulesRefused.program modules table names r.program refusal walked are.scoped are.types are.is_table are.translated
    (subst (λ (p : LocalKernel). IsLifted table p names r.program) are.is r.lifted) r.cannot_run) is

pub alone_comes : (held : Folder) (root : List ℕ) (modules : List Named) (names : List (List ℕ)) (found : Compiled)
    → CompileAlone modules root names found.program found.interface (program_of found.flat) → Walk held root (Ok modules)
    → RootCompiles held root names found.program found.interface (program_of found.flat)
alone_comes held root modules names found alone walked = record { modules = modules; compile = alone held walked }

pub are_translated : (names : List (List ℕ)) (modules : List Named) (result : Result LocalKernel StageFault) → AreScoped [] modules
    → AreRight modules → IsTable modules names → IfOk result (λ program. translation_refusal names modules ≡ None)
    → IfOk result (λ program. program ≡ modules_program names modules) → IfOk result (AreTranslated names modules)
are_translated names modules (Ok program) scoped types table none is =
    record { scoped = scoped; types = types; is_table = table; translated = none; is = is }
are_translated names modules (Err fault) scoped types table none is = tt

pub all_refused : (names : List (List ℕ)) (modules : List Named) (root : List ℕ) (result : Result LocalKernel StageFault)
    → AreScoped [] modules → AreRight modules → IsTable modules names
    → IfErr result (Tells names (λ refusal. translation_refusal names modules ≡ Some refusal))
    → IfErr result (Tells names (RefusesModules modules root))
all_refused names modules root (Ok program) scoped types table told = tt
all_refused names modules root (Err fault) scoped types table told = modules_refused names modules root fault scoped types table told
