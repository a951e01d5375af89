-- What the translation of modules, one after another, and of a goal comes to.
use Rattle.std.specs.Prelude.{◌≡◌, ℕ, zero, suc, Bool, true, false, List, Option, None, Some, Result, Ok, Err, take}
use Rattle.cu_kernel.specs.LocalKernel.{Follows, LocalKernel, joined}
use Rattle.cu_modules.specs.Scopes.{Named}
use Rattle.cu_names.specs.declared.names.NameId.{NameId}
use Rattle.cu_translation.specs.declared.fault.DesugarFault.{DesugarFault}
use Rattle.cu_translation.specs.declared.fault.DesugarFault.TheVariants as desugar
use Rattle.cu_translation.specs.ModuleNames.{module_at}
use Rattle.cu_translation.specs.Parts.{module_part}
use Rattle.cu_front.specs.declared.fault.StageFault.{StageFault}
use Rattle.cu_front.specs.declared.fault.StageFault.TheVariants as stage
use Rattle.cu_front.specs.declared.outcome.Outcome.{Outcome}
use Rattle.cu_front.specs.declared.outcome.Outcome.TheVariants as outcome
use Rattle.cu_front.specs.declared.refusal.Refusal.TheVariants as told
use Rattle.cu_front.specs.Refusal.{Refusal}
use Rattle.cu_front.specs.RefusalMeaning.{RefusalIsKnown, refusal_meaning}
use Rattle.cu_front.specs.Translated.{clash_in, fault_in, first_from, program_upto, refused_or}

-- ---- answers of the translation

-- the fault of a stage for a fault of the functions of a module
abbrev pub fault_of_functions : NameId → DesugarFault → StageFault
fault_of_functions owner (desugar.FixityClash place) = stage.Refused (told.FixityClash place)
fault_of_functions owner (desugar.Arity place) = stage.Refused (told.Arity place)
fault_of_functions owner (desugar.NonLinear place) = stage.Refused (told.NonLinear place)
fault_of_functions owner (desugar.RecursiveLocal place) = stage.Refused (told.RecursiveLocal place)
fault_of_functions owner (desugar.SetName place) = stage.Refused (told.SetName place)
fault_of_functions owner (desugar.TooLong line) = stage.Refused (told.TooLong owner line)
fault_of_functions owner desugar.NoMemory = stage.NoMemory

-- whether a fault of translation is a clash of operators
abbrev pub is_clash : DesugarFault → Bool
is_clash (desugar.FixityClash place) = true
is_clash _ = false

-- the outcome that keeps a refusal, which is told later
abbrev pub kept : StageFault → Result Outcome StageFault
kept (stage.Refused refusal) = Ok (outcome.Refused refusal)
kept stage.NoMemory = Err stage.NoMemory

-- ---- parts in a row

-- the outcome for a program and a part after it: both joined, or the refusal that is found first
abbrev pub followed_by : Outcome → Outcome → Outcome
followed_by (outcome.Program first) (outcome.Program second) = outcome.Program (joined first second)
followed_by (outcome.Program first) (outcome.Refused refusal) = outcome.Refused refusal
followed_by (outcome.Refused refusal) second = outcome.Refused refusal

-- The numbers of a part follow those of the program before it.
abbrev pub Follow : Outcome → Outcome → Type 0
Follow (outcome.Program first) (outcome.Program second) = Follows first second
Follow _ _ = Unit {0}

-- The outcome is the program `whole`, where nothing is refused, or else tells this refusal.
abbrev pub IsOutcome : List (List ℕ) → Option Refusal → LocalKernel → Outcome → Type 0
IsOutcome names refused whole (outcome.Program program) = (refused ≡ None) × (program ≡ whole)
IsOutcome names refused whole (outcome.Refused refusal) =
    (refused ≡ Some (refusal_meaning names refusal)) × RefusalIsKnown names refusal

-- There is no refusal for a clash, and the outcome is the program `whole` or tells the other
-- refusal.
pub record HasNoClash (names : List (List ℕ)) (clash other : Option Refusal) (whole : LocalKernel)
    (found : Outcome) : Type 0 where
  pub no_clash : clash ≡ None
  pub is : IsOutcome names other whole found

-- ---- modules

-- the refusal of the module of a number for a clash of operators
unfoldable pub clash_told : List (List ℕ) → List Named → ℕ → Option Refusal
clash_told table modules k =
    refused_or (module_at modules k).name (clash_in table modules k) None

-- the refusal of the module of a number for a fault of functions other than a clash
unfoldable pub other_told : List (List ℕ) → List Named → ℕ → Option Refusal
other_told table modules k =
    refused_or (module_at modules k).name (fault_in table modules k) None

-- the part that the module of a number is translated to
unfoldable pub part_at : List (List ℕ) → List Named → ℕ → LocalKernel
part_at table modules k = module_part table modules k

-- The module of a number has no clash, and this is the outcome for it.
abbrev pub IsModuleOutcome : List (List ℕ) → List Named → ℕ → Outcome → Type 0
IsModuleOutcome table modules k found =
    HasNoClash table (clash_told table modules k) (other_told table modules k)
    (part_at table modules k) found

-- the refusal for a clash of operators in the first n modules
unfoldable pub clashes_told : List (List ℕ) → List Named → ℕ → Option Refusal
clashes_told table modules n = first_from (clash_in table modules) 0 (take n modules)

-- the refusal for a fault of functions other than a clash in the first n modules
unfoldable pub others_told : List (List ℕ) → List Named → ℕ → Option Refusal
others_told table modules n = first_from (fault_in table modules) 0 (take n modules)

-- the parts of the first n modules joined, or the part of the first module where n is 0
unfoldable pub parts_of : List (List ℕ) → List Named → ℕ → LocalKernel
parts_of table modules zero = program_upto table modules zero
parts_of table modules (suc k) = program_upto table modules k

-- The first n modules have no clash, and this is the outcome for them.
abbrev pub IsOutcomeOf : List (List ℕ) → List Named → ℕ → Outcome → Type 0
IsOutcomeOf table modules n found =
    HasNoClash table (clashes_told table modules n) (others_told table modules n)
    (parts_of table modules n) found
