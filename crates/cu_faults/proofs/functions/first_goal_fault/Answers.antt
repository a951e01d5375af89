use Rattle.cu_translation.specs.Faults.{goal_faults}
use Rattle.cu_translation.specs.Functions.{around_goal, goal_nodes}
use Rattle.cu_faults.proofs.ToldLemmas.{all_told}
use Rattle.cu_faults.proofs.functions.first_goal_fault.Goals as goal

pub returns : goal.returns
returns g c t names goal_text owner tells stands are =
    let faults = goal_faults names goal_text in
    c.fault.ensures t.owner faults (all_told t.owner faults c.new-first.result c.tell_text.new.first (c.new-first.ensures t.owner) (c.in_ok-tell_text.ensures t (around_goal names goal_text) (goal_nodes goal_text) owner tells stands are))
