use Rattle.cu_laws.proofs.FreeVariables.{depends}
use Rattle.cu_laws.proofs.soundness.derivations_depend_on_their_variables.Goals as goal

pub returns : goal.returns
returns c = depends
