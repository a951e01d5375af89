use Rattle.cu_types.proofs.Unifying.{unified}
use Rattle.cu_types.proofs.laws.solutions_agree.Goals as goal

pub returns : goal.returns
returns c = λ equations σ s t solves equal. unified equations σ solves s t equal
