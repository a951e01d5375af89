use Rattle.cu_laws.proofs.Beginnings.{conclusions_begin, goals_begin}
use Rattle.cu_laws.proofs.covering.derivations_begin.Goals as goal

pub returns : goal.returns
returns c = record { call = conclusions_begin; goal = goals_begin }
