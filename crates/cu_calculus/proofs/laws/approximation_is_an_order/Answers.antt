use Rattle.cu_calculus.proofs.BelowLaws.{below_antisym, below_itself, below_trans}
use Rattle.cu_calculus.proofs.laws.approximation_is_an_order.Goals as goal

pub returns : goal.returns
returns c = record { itself = below_itself; transitive = below_trans; antisymmetric = below_antisym }
