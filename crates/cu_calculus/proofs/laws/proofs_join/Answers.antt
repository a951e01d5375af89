use Rattle.cu_calculus.proofs.Joining.{checks_joined, conclusion_joined, keeps_first, keeps_second}
use Rattle.cu_calculus.proofs.laws.proofs_join.Goals as goal

pub returns : goal.returns
returns c = record { checks = checks_joined; concludes = conclusion_joined; keeps_first = keeps_first; keeps_second = keeps_second }
