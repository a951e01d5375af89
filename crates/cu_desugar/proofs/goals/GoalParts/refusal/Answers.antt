use Rattle.std.proofs.Common.{◌∙◌, sym}
use Rattle.cu_translation.specs.Faults.{goal_clashes, goal_faults}
use Rattle.cu_translation.specs.Functions.{around_goal, goal_nodes}
use Rattle.cu_desugar.proofs.RefusalLemmas.{by_clash, by_other}
use Rattle.cu_desugar.proofs.goals.GoalParts.refusal.Goals as goal

pub returns-in-Some : goal.returns-in-Some
returns-in-Some c t names whole top is owner =
    let around = c.around-around.ensures t names whole top is in
    by_clash t.owner (goal_clashes names whole) (goal_faults names whole) c.in_ok-clash.clash c.in-Some.clash c.in-Some.is
    (c.in_ok-clash.ensures t (around_goal names whole) (goal_nodes whole) around is.stands)

pub returns-in-None : goal.returns-in-None
returns-in-None c t names whole top is owner =
    let around = c.around-around.ensures t names whole top is in
    by_other t.owner (goal_clashes names whole) (goal_faults names whole) c.in_ok-clash.clash c.first_goal_fault.result c.in-None.is
    (c.in_ok-clash.ensures t (around_goal names whole) (goal_nodes whole) around is.stands)
    (c.first_goal_fault.ensures t names whole (owner ∙ sym (c.owner-owner.ensures t.names names top)) around is.stands is.dependent)
