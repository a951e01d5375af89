use Rattle.cu_calculus.proofs.Levels.{least_levels_same}
use Rattle.cu_calculus.proofs.laws.least_levels_are_unique.Goals as goal

pub returns : goal.returns
returns c = least_levels_same
