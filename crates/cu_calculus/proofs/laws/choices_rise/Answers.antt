use Rattle.cu_calculus.proofs.Choices.{chooses_one_rises, chooses_rises}
use Rattle.cu_calculus.proofs.laws.choices_rise.Goals as goal

pub returns : goal.returns
returns c = record { one = chooses_one_rises; all = chooses_rises }
