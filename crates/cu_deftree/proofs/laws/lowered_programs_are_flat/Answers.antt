use Rattle.cu_deftree.proofs.FlatTrees.{flattens_flat}
use Rattle.cu_deftree.proofs.laws.lowered_programs_are_flat.Goals as goal

pub returns : goal.returns
returns c = λ program flat valid flattens. flattens_flat program flat flattens valid.special.ordered
