use Rattle.std.proofs.Common.{refl}
use Rattle.cu_kernel.specs.LocalKernelOf.{local_kernel_of}
use Rattle.cu_syntax.specs.Answer.{goal_meaning}
use Rattle.cu_translation.specs.Parts.{goal_names}
use Rattle.cu_desugar.proofs.TranslatedLemmas.{goal_is_translated, goal_refused}
use Rattle.cu_desugar.proofs.parts.text_outcome.Goals as goal

pub returns-in-Some : goal.returns-in-Some
returns-in-Some c t modules tells entities owner owned is =
    let root = c.args.root in
    let whole = goal_meaning t.names c.args.goal.now in
    goal_refused t.owner t.names modules root whole c.in_ok-refused.refused c.in-Some.fault c.in-Some.is
    (c.in_ok-refused.ensures t (goal_names t.names modules root) whole tells is owner)

pub returns-in_ok-parts-in-None : goal.returns-in_ok-parts-in-None
returns-in_ok-parts-in-None c t modules tells entities owner owned is =
    let root = c.args.root in
    let whole = goal_meaning t.names c.args.goal.now in
    let around = goal_names t.names modules root in
    let function = c.in_ok-function-in-None.ensures t around tells owned is refl in
    goal_is_translated t.owner t.names modules root whole c.in_ok-refused.refused (local_kernel_of c.in_ok-parts-in-None.parts) c.in-None.is
    (c.in_ok-refused.ensures t around whole tells is owner)
    (c.in_ok-parts-in-None.ensures t.owner t.names modules tells entities owned function)
