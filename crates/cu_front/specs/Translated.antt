-- The program before lifting that modules are translated to, and the first fault of their
-- functions.
use Rattle.std.specs.Prelude.{ℕ, zero, suc, ◌+◌, ◌-◌, List, [], ◌∷◌, Option, None, Some, length}
use Rattle.std.specs.List.{flat_map}
use Rattle.std.specs.Option.{option_or}
use Rattle.cu_kernel.specs.LocalKernel.{LocalKernel, joined}
use Rattle.cu_modules.specs.Scopes.{Named}
use Rattle.cu_translation.specs.FaultOrder.{Fault, first_fault}
use Rattle.cu_translation.specs.Faults.{group_clashes, group_faults}
use Rattle.cu_translation.specs.ModuleNames.{module_at, names_in}
use Rattle.cu_translation.specs.Numbered.{groups_in}
use Rattle.cu_translation.specs.Parts.{module_part}
use Rattle.cu_front.specs.Refusal.{Refusal, in_functions}

-- ---- faults

-- the first clash of operators in the module of a number
abbrev pub clash_in : List (List ℕ) → List Named → ℕ → Option Fault
clash_in table modules k =
    first_fault
    (flat_map (group_clashes (names_in table modules k)) (groups_in (module_at modules k)))

-- the first fault of functions other than a clash, in the module of a number
abbrev pub fault_in : List (List ℕ) → List Named → ℕ → Option Fault
fault_in table modules k =
    first_fault
    (flat_map (group_faults (names_in table modules k)) (groups_in (module_at modules k)))

-- the refusal for a fault in the text of a module, or else another refusal
abbrev pub refused_or : List ℕ → Option Fault → Option Refusal → Option Refusal
refused_or owner None others = others
refused_or owner (Some fault) others = Some (in_functions owner fault)

-- the refusal for the fault of the first of some modules that has one, where these modules have the
-- numbers from k on
abbrev pub first_from : (ℕ → Option Fault) → ℕ → List Named → Option Refusal
first_from found k [] = None
first_from found k (m ∷ ms) = refused_or m.name (found k) (first_from found (k + 1) ms)

-- The first refusal for the functions of modules: that for the first clash of operators of the
-- first module with one, or else that for the first other fault of the first module with one.
unfoldable pub translation_refusal : List (List ℕ) → List Named → Option Refusal
translation_refusal table modules =
    option_or (first_from (clash_in table modules) 0 modules)
    (first_from (fault_in table modules) 0 modules)

-- ---- the program

-- the parts of the modules of the numbers 0 to k, joined
abbrev pub program_upto : List (List ℕ) → List Named → ℕ → LocalKernel
program_upto table modules zero = module_part table modules zero
program_upto table modules (suc k) =
    joined (program_upto table modules k) (module_part table modules (suc k))

-- the parts of all modules, joined: the program before lifting
unfoldable pub modules_program : List (List ℕ) → List Named → LocalKernel
modules_program table modules = program_upto table modules (length modules - 1)
