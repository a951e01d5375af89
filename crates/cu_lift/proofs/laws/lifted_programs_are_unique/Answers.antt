use Rattle.cu_lift.proofs.LiftedOnce.{lifted_once}
use Rattle.cu_lift.proofs.laws.lifted_programs_are_unique.Goals as goal

pub returns : goal.returns
returns c = lifted_once
