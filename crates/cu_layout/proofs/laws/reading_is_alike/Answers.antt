use Rattle.cu_layout.proofs.LawLemmas.{reads-alike}
use Rattle.cu_layout.proofs.laws.reading_is_alike.Goals as goal

pub returns : goal.returns
returns c = reads-alike
