-- What outcomes of the code stand for.
use Rattle.std.specs.Prelude.{◌≡◌, List}
use Rattle.std.specs.List.{flat_map}
use Rattle.cu_faults.specs.Telling.{FaultIsOf}
use Rattle.cu_kernel.specs.LocalKernelOf.{local_kernel_of}
use Rattle.cu_modules.specs.Scopes.{Named}
use Rattle.cu_names.specs.declared.names.NameId.{NameId}
use Rattle.cu_translation.specs.Answer.{fault_meaning}
use Rattle.cu_translation.specs.FaultOrder.{first_fault}
use Rattle.cu_translation.specs.Faults.{group_clashes, group_faults}
use Rattle.cu_translation.specs.ModuleTypes.{Reading}
use Rattle.cu_translation.specs.Numbered.{groups_in}
use Rattle.cu_translation.specs.Parts.{part_of}
use Rattle.cu_translation.specs.Translation as meant
use Rattle.cu_desugar.specs.declared.outcomes.Outcome.{Outcome}
use Rattle.cu_desugar.specs.declared.outcomes.Outcome.TheVariants as outcome

-- The code's outcome stands for this one, and its fault, if it has one, is of a text of the module.
abbrev pub IsOutcome : NameId → meant.Outcome → Outcome → Type 0
IsOutcome owner whole (outcome.Translated parts) = whole ≡ meant.Translated (local_kernel_of parts)
IsOutcome owner whole (outcome.Refused fault) =
    (whole ≡ meant.Refused (fault_meaning fault)) × FaultIsOf owner fault

-- what a module among others is translated to, where its reading is given
unfoldable pub reading_translated : List Named → Reading → meant.Outcome
reading_translated modules r =
    meant.outcome (first_fault (flat_map (group_clashes r.names) (groups_in r.m)))
    (first_fault (flat_map (group_faults r.names) (groups_in r.m)))
    (part_of modules r)
