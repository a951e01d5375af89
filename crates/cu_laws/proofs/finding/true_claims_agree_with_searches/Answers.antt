use Rattle.cu_laws.proofs.FoundTrue.{true_agree}
use Rattle.cu_laws.proofs.finding.true_claims_agree_with_searches.Goals as goal

pub returns : goal.returns
returns c = λ program limits levels level claims well are are_true. true_agree program limits levels well are level claims are_true
