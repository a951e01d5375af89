use Rattle.cu_deftree.proofs.FlatIsValid.{flat_valid}
use Rattle.cu_deftree.proofs.laws.lowered_programs_are_valid.Goals as goal

pub returns : goal.returns
returns c = flat_valid
