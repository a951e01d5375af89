use Rattle.cu_types.proofs.OneInterface.{one_interface}
use Rattle.cu_types.proofs.laws.interfaces_agree.Goals as goal

pub returns : goal.returns
returns c = λ kernel i j one two. one_interface kernel i j one two
