use Rattle.cu_types.proofs.Unifying.{unified}
use Rattle.cu_types.proofs.laws.clashes_refute.Goals as goal

pub returns : goal.returns
returns c = λ equations s t σ clash solves. clash.apart σ (unified equations σ solves s t clash.made_equal)
