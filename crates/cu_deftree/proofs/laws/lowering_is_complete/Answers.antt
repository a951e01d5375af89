use Rattle.cu_deftree.proofs.Complete.{concludes_too}
use Rattle.cu_deftree.proofs.laws.lowering_is_complete.Goals as goal

pub returns : goal.returns
returns c = λ program flat claims f vs v valid flattens claimed given. concludes_too program flat claims flattens valid claimed f vs v given
