use Rattle.cu_syntax.specs.Answer.{goal_meaning}
use Rattle.cu_front.proofs.TableLemmas.{variable_names}
use Rattle.cu_front.proofs.programs.know_variables.Goals as goal

pub returns : goal.returns
returns c owner names owned =
    variable_names owner names c.in_ok-free_variables.field-0.items (goal_meaning names c.args.goal.now).free
    (c.in_ok-free_variables.ensures.meaning names) (c.in_ok-free_variables.ensures.owned owner names owned)
