use Rattle.cu_types.proofs.SampleLemmas.{computed}
use Rattle.cu_types.proofs.laws.samples_ask.Goals as goal

pub returns : goal.returns
returns c = computed
