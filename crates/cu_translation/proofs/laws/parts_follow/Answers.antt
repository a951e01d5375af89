use Rattle.cu_translation.proofs.Following.{goal_follows, parts_follow}
use Rattle.cu_translation.proofs.laws.parts_follow.Goals as goal

pub returns-clause-modules : goal.returns-clause-modules
returns-clause-modules c = parts_follow

pub returns-clause-goal : goal.returns-clause-goal
returns-clause-goal c = goal_follows
