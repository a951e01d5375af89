use Rattle.cu_laws.proofs.LevelStates.{stays_at_level}
use Rattle.cu_laws.proofs.answers.graphs_stay_at_their_level.Goals as goal

pub returns : goal.returns
returns c = stays_at_level
