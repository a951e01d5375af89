use Rattle.cu_types.proofs.SampleLemmas.{answered}
use Rattle.cu_types.proofs.laws.samples_are_answered.Goals as goal

pub returns : goal.returns
returns c = answered
