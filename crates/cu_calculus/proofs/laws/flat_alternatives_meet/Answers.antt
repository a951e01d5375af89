use Rattle.cu_calculus.proofs.FlatChoices.{chooses_flat, flat_chooses}
use Rattle.cu_calculus.proofs.laws.flat_alternatives_meet.Goals as goal

pub returns : goal.returns
returns c = λ program alternatives u choice flat differ. (
  λ chooses. flat_chooses program alternatives u choice flat chooses,
  λ found. chooses_flat program alternatives u choice found.0 flat differ found.1 found.2,
)
