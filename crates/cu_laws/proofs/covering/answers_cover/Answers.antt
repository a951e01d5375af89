use Rattle.cu_laws.proofs.Instances.{answer_covers}
use Rattle.cu_laws.proofs.covering.answers_cover.Goals as goal

pub returns : goal.returns
returns c = answer_covers
