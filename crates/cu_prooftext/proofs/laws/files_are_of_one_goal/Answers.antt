use Rattle.cu_prooftext.proofs.FileLaws.{one_file}
use Rattle.cu_prooftext.proofs.laws.files_are_of_one_goal.Goals as goal

pub returns-clause-goal : goal.returns-clause-goal
returns-clause-goal c = λ bytes goal other claims others steps more a b. (one_file bytes goal other claims others steps more a b).0

pub returns-clause-claims : goal.returns-clause-claims
returns-clause-claims c = λ bytes goal other claims others steps more a b. (one_file bytes goal other claims others steps more a b).1

pub returns-clause-steps : goal.returns-clause-steps
returns-clause-steps c = λ bytes goal other claims others steps more a b. (one_file bytes goal other claims others steps more a b).2
