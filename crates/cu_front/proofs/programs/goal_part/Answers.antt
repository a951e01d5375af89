use Rattle.std.proofs.Common.{◌≡◌, IfErr, IfOk, Result, subst, sym}
use Rattle.cu_names.proofs.Growth.{text_of-at}
use Rattle.cu_names.specs.Texts.{text_of}
use Rattle.cu_syntax.specs.Answer.{goal_meaning}
use Rattle.cu_desugar.specs.Modules.{named}
use Rattle.cu_translation.specs.Functions.{goal_name}
use Rattle.cu_front.specs.declared.fault.StageFault.{StageFault}
use Rattle.cu_front.specs.declared.fault.StageFault.TheVariants.{NoMemory}
use Rattle.cu_front.specs.declared.outcome.Outcome.{Outcome}
use Rattle.cu_front.specs.Inside.Outcomes.{IsOutcome, is_clash}
use Rattle.cu_front.specs.Inside.Stages.{goal_told, part_of_goal}
use Rattle.cu_front.proofs.FunctionLemmas as functions
use Rattle.cu_front.proofs.StageLemmas.{goal_part_is, goal_refused, kept_memory}
use Rattle.cu_front.proofs.programs.goal_part.Goals as goal

pub returns-in-Ok-clause-part : goal.returns-in-Ok-clause-part
returns-in-Ok-clause-part c =
    goal_part_is c.args.modules.names.now (named c.args.modules) c.args.root (goal_meaning c.args.modules.names.now c.args.goal.now)
    c.in-Ok.part c.in-Ok.ensures.program

pub returns-in-Some-clause-part : goal.returns-in-Some-clause-part
returns-in-Some-clause-part c =
    let names = c.args.modules.names.now in
    let ms = named c.args.modules in
    let g = goal_meaning names c.args.goal.now in
    let owner = c.in-Some.owner in
    let named_at = c.in-Some.ensures.found in
    subst (λ (r : Result Outcome StageFault). IfOk r (IsOutcome names (goal_told names ms c.args.root g) (part_of_goal names ms c.args.root g)))
    (sym c.kept.ensures)
    (goal_refused names ms c.args.root g (text_of names owner) (is_clash c.in-Err.fault) (part_of_goal names ms c.args.root g) c.of_functions.result
    (text_of-at names owner goal_name named_at)
    (functions.goal_told names ms c.args.root g owner c.in-Err.fault c.of_functions.result c.find.ensures.differ named_at c.of_functions.ensures
    c.in-Err.ensures.fault))

pub returns-in-Some-clause-fault : goal.returns-in-Some-clause-fault
returns-in-Some-clause-fault c =
    subst (λ (r : Result Outcome StageFault). IfErr r (λ fault. fault ≡ NoMemory)) (sym c.kept.ensures) (kept_memory c.of_functions.result)
