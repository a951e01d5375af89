use Rattle.std.proofs.Common.{◌≡◌, IfErr, IfOk, Result, Some, subst, sym}
use Rattle.cu_modules.specs.Ordering.{modules_of}
use Rattle.cu_front.specs.declared.fault.StageFault.{StageFault}
use Rattle.cu_front.specs.declared.outcome.Outcome.{Outcome}
use Rattle.cu_front.specs.Inside.Stages.{IsGoalRead, IsWhole}
use Rattle.cu_front.specs.Refusal.{Refusal}
use Rattle.cu_front.specs.Inside.StageFaults.{Tells}
use Rattle.cu_front.specs.Translated.{translation_refusal}
use Rattle.cu_front.proofs.ModuleLemmas.{kept_tells}
use Rattle.cu_front.proofs.StageLemmas.{goal_unread}
use Rattle.cu_front.proofs.programs.read_outcome.Goals as goal

pub returns-in-Ok-clause-whole : goal.returns-in-Ok-clause-whole
returns-in-Ok-clause-whole c text found =
    c.goal_outcome.ensures.whole text (subst (IsGoalRead c.args.rooted.names.now text) c.in-Ok.is found).read

pub returns-in-Err-clause-whole : goal.returns-in-Err-clause-whole
returns-in-Err-clause-whole c text found =
    let names = c.args.rooted.names.now in
    let ms = modules_of names c.args.rooted.modules.now in
    subst (λ (r : Result Outcome StageFault). IfOk r (IsWhole names ms c.args.rooted.root text)) (sym c.kept.ensures)
    (goal_unread names ms c.args.rooted.root text c.in-Err.fault (subst (IsGoalRead names text) c.in-Err.is found).unread)

pub returns-in-Err-clause-fault : goal.returns-in-Err-clause-fault
returns-in-Err-clause-fault c =
    let names = c.args.rooted.names.now in
    let ms = modules_of names c.args.rooted.modules.now in
    subst (λ (r : Result Outcome StageFault). IfErr r (Tells names (λ (refusal : Refusal). translation_refusal names ms ≡ Some refusal)))
    (sym c.kept.ensures) (kept_tells names (λ (refusal : Refusal). translation_refusal names ms ≡ Some refusal) c.in-Err.fault)
