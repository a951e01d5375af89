use Rattle.cu_calculus.proofs.MoreClaims.{checks_further, checks_more, give_more}
use Rattle.cu_calculus.proofs.laws.claims_extend.Goals as goal

pub returns : goal.returns
returns c = record { derivations = give_more; proofs = checks_more; further = checks_further }
