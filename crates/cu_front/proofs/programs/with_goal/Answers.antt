use Rattle.std.proofs.Common.{◌≡◌, ◌<◌, Some, arith, length, refl}
use Rattle.std.proofs.lemmas.List.{length-map}
use Rattle.cu_modules.specs.Ordering.{module_of}
use Rattle.cu_syntax.specs.Answer.{goal_meaning}
use Rattle.cu_desugar.specs.Modules.{named}
use Rattle.cu_front.specs.Compiling.{whole_program}
use Rattle.cu_front.specs.declared.outcome.Outcome.TheVariants.{Program}
use Rattle.cu_front.specs.Inside.Outcomes.{IsOutcome, followed_by}
use Rattle.cu_front.specs.Inside.Stages.{goal_told}
use Rattle.cu_front.specs.Refusal.{Refusal}
use Rattle.cu_front.specs.Inside.StageFaults.{Tells}
use Rattle.cu_front.specs.Translated.{translation_refusal}
use Rattle.cu_front.proofs.RunLemmas.{err_same, memory_told, ok_same}
use Rattle.cu_front.proofs.StageLemmas.{goal_after, goal_follows}
use Rattle.cu_front.proofs.programs.with_goal.Goals as goal

pub followed_by-requires : goal.followed_by-requires
followed_by-requires c =
    let names = c.args.modules.names.now in
    let ms = named c.args.modules in
    let g = goal_meaning names c.args.goal.now in
    let below : c.args.root < length ms = omega (arith, c.requires.root, length-map c.args.modules.modules.now (module_of names)) in
    goal_follows c.parts_follow.ensures.modules c.parts_follow.ensures.goal names ms c.args.root g c.in_ok-program.program c.in_ok-part.part
    (goal_told names ms c.args.root g) below c.in_ok-program.ensures.program c.in_ok-part.ensures.part

pub returns-in_err-program-clause-fault : goal.returns-in_err-program-clause-fault
returns-in_err-program-clause-fault c =
    let names = c.args.modules.names.now in
    err_same (Tells names (λ (refusal : Refusal). translation_refusal names (named c.args.modules) ≡ Some refusal)) c.from_residual.result
    c.in_err-program.field-0.0 c.from_residual.ensures.1 c.in_err-program.ensures.fault

pub returns-clause-whole : goal.returns-clause-whole
returns-clause-whole c =
    let names = c.args.modules.names.now in
    let ms = named c.args.modules in
    let g = goal_meaning names c.args.goal.now in
    let both = followed_by (Program c.in_ok-program.program) c.in_ok-part.part in
    ok_same (IsOutcome names (goal_told names ms c.args.root g) (whole_program names ms c.args.root g)) c.followed_by.result both c.followed_by.ensures.whole
    (goal_after names ms c.args.root g c.in_ok-program.program c.in_ok-part.part both (goal_told names ms c.args.root g)
    c.in_ok-program.ensures.program c.in_ok-part.ensures.part refl)

pub returns-clause-fault : goal.returns-clause-fault
returns-clause-fault c =
    let names = c.args.modules.names.now in
    memory_told names (λ (refusal : Refusal). translation_refusal names (named c.args.modules) ≡ Some refusal) c.followed_by.result c.followed_by.ensures.fault
