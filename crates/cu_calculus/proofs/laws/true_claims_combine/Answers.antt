use Rattle.cu_calculus.proofs.TrueClaims.{true_higher, true_joined, true_of, true_rows}
use Rattle.cu_calculus.proofs.laws.true_claims_combine.Goals as goal

pub returns : goal.returns
returns c = record { of_program = true_of; rows = true_rows; joined = true_joined; higher = true_higher }
