use Rattle.cu_laws.proofs.LevelsKept.{rounds_kept, steps_kept}
use Rattle.cu_laws.proofs.stepping.levels_are_complete.Goals as goal

pub returns : goal.returns
returns c = record { steps = steps_kept; rounds = rounds_kept }
