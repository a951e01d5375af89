use Rattle.std.proofs.Common.{◌∙◌, IfErr, IfOk, Result, Some, ◌≡◌, refl, subst, sym}
use Rattle.cu_desugar.specs.Modules.{named}
use Rattle.cu_translation.specs.ModuleNames.{module_at}
use Rattle.cu_front.proofs.FunctionLemmas.{module_refused}
use Rattle.cu_front.proofs.ModuleLemmas.{clash_is_told, kept_tells, other_is_told, part_is}
use Rattle.cu_front.specs.declared.fault.StageFault.{StageFault}
use Rattle.cu_front.specs.declared.outcome.Outcome.{Outcome}
use Rattle.cu_front.specs.Inside.Outcomes.{IsModuleOutcome, clash_told, is_clash}
use Rattle.cu_front.specs.Refusal.{Refusal}
use Rattle.cu_front.specs.Inside.StageFaults.{Tells}
use Rattle.cu_front.proofs.translated.module_outcome.Goals as goal

pub returns-in-Ok-clause-outcome : goal.returns-in-Ok-clause-outcome
returns-in-Ok-clause-outcome c =
    part_is c.args.modules.names.now (named c.args.modules) c.args.number c.in-Ok.part c.in-Ok.ensures.program

pub returns-then-is_clash-clause-fault : goal.returns-then-is_clash-clause-fault
returns-then-is_clash-clause-fault c =
    let names = c.args.modules.names.now in
    let ms = named c.args.modules in
    let k = c.args.number in
    clash_is_told names ms k (module_at ms k).name (is_clash c.in-Err.fault) c.of_functions-told.result refl
    (sym c.is_clash.ensures ∙ c.if-is_clash.true)
    (module_refused names c.args.modules.modules.now k c.index-modules-number.result c.name.result c.in-Err.fault c.of_functions-told.result
    c.requires.known.entities.differ c.requires.known.has c.requires.number c.index-modules-number.is c.name.ensures c.of_functions-told.ensures
    c.in-Err.ensures.fault)

pub returns-else-is_clash-clause-outcome : goal.returns-else-is_clash-clause-outcome
returns-else-is_clash-clause-outcome c =
    let names = c.args.modules.names.now in
    let ms = named c.args.modules in
    let k = c.args.number in
    subst (λ (r : Result Outcome StageFault). IfOk r (IsModuleOutcome names ms k)) (sym c.kept.ensures)
    (other_is_told names ms k (module_at ms k).name (is_clash c.in-Err.fault) c.of_functions-told.result refl
    (sym c.is_clash.ensures ∙ c.if-is_clash.false)
    (module_refused names c.args.modules.modules.now k c.index-modules-number.result c.name.result c.in-Err.fault c.of_functions-told.result
    c.requires.known.entities.differ c.requires.known.has c.requires.number c.index-modules-number.is c.name.ensures c.of_functions-told.ensures
    c.in-Err.ensures.fault))

pub returns-else-is_clash-clause-fault : goal.returns-else-is_clash-clause-fault
returns-else-is_clash-clause-fault c =
    let names = c.args.modules.names.now in
    let ms = named c.args.modules in
    let k = c.args.number in
    subst (λ (r : Result Outcome StageFault). IfErr r (Tells names (λ (refusal : Refusal). clash_told names ms k ≡ Some refusal))) (sym c.kept.ensures)
    (kept_tells names (λ (refusal : Refusal). clash_told names ms k ≡ Some refusal) c.of_functions-told.result)
