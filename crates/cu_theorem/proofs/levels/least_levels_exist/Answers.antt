use Rattle.cu_theorem.proofs.LeastLevels.{least_levels}
use Rattle.cu_theorem.proofs.levels.least_levels_exist.Goals as goal

pub returns : goal.returns
returns c = least_levels
