use Rattle.cu_lift.proofs.LiftedProgram.{lifting_is_valid}
use Rattle.cu_lift.proofs.laws.lifted_programs_are_valid.Goals as goal

pub returns : goal.returns
returns c = lifting_is_valid
