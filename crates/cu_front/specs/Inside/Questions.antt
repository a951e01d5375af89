-- What the stages come to for a goal in modules that are loaded.
use Rattle.std.specs.Prelude.{◌⊎◌, ℕ, List}
use Rattle.cu_modules.specs.Scopes.{Named}
use Rattle.cu_front.specs.Compiling.{GoalRefused}
use Rattle.cu_front.specs.declared.asking.AskFault.{AskFault}
use Rattle.cu_front.specs.declared.asking.AskFault.TheVariants as answer
use Rattle.cu_front.specs.declared.fault.StageFault.{StageFault}
use Rattle.cu_front.specs.declared.fault.StageFault.TheVariants as stage
use Rattle.cu_front.specs.Inside.Stages.{RefusesModules}
use Rattle.cu_front.specs.Refusal.{Refusal}

-- A goal in the module of number k is refused, for this reason, or else the modules are, whatever
-- root reaches them and whatever folder holds them.
abbrev pub RefusesQuestion : List Named → ℕ → List ℕ → Refusal → Type 0
RefusesQuestion modules k text refusal =
    GoalRefused modules k text refusal
    ⊎ ((root : List ℕ) → RefusesModules modules root refusal)

-- the fault of `ask` for a fault of a stage
abbrev pub ask_fault_of : StageFault → AskFault
ask_fault_of (stage.Refused refusal) = answer.Refused refusal
ask_fault_of stage.NoMemory = answer.NoMemory
