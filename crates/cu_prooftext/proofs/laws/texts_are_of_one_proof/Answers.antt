use Rattle.cu_prooftext.proofs.LineLaws.{one_proof}
use Rattle.cu_prooftext.proofs.laws.texts_are_of_one_proof.Goals as goal

pub returns-clause-claims : goal.returns-clause-claims
returns-clause-claims c = λ bytes claims others steps more a b. (one_proof bytes claims others steps more a b).0

pub returns-clause-steps : goal.returns-clause-steps
returns-clause-steps c = λ bytes claims others steps more a b. (one_proof bytes claims others steps more a b).1
