use Rattle.cu_types.proofs.Exclusions.{faults_alike, one_broken, one_unsolved}
use Rattle.cu_types.proofs.laws.faults_agree.Goals as goal

pub returns : goal.returns
returns c = record {
  solutions = λ kernel f g one two. one_unsolved kernel f g one two;
  signatures = λ kernel f g one two. one_broken kernel f g one two;
  faults = λ kernel a b one two. faults_alike kernel a b one two;
}
