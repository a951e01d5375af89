use Rattle.cu_deftree.proofs.OneTree.{flattens_one}
use Rattle.cu_deftree.proofs.laws.lowering_is_a_function.Goals as goal

pub returns : goal.returns
returns c = flattens_one
