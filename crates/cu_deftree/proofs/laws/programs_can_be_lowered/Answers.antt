use Rattle.cu_deftree.proofs.Lowerable.{flat_exists}
use Rattle.cu_deftree.proofs.laws.programs_can_be_lowered.Goals as goal

pub returns : goal.returns
returns c = flat_exists
