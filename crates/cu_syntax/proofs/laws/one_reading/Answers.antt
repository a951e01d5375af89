use Rattle.cu_syntax.proofs.OneReading.{goal_once, module_once}
use Rattle.cu_syntax.proofs.laws.one_reading.Goals as goal

pub returns-clause-modules : goal.returns-clause-modules
returns-clause-modules c = λ tokens outcome other h k. module_once tokens outcome other h k

pub returns-clause-goals : goal.returns-clause-goals
returns-clause-goals c = λ tokens outcome other h k. goal_once tokens outcome other h k
