use Rattle.cu_calculus.proofs.Weaken.{weaken}
use Rattle.cu_calculus.proofs.laws.derivations_weaken.Goals as goal

pub returns : goal.returns
returns c = weaken
