use Rattle.cu_calculus.proofs.MoreClaims.{checks_by_rows, cited_rows, give_by_rows, proof_cited_rows}
use Rattle.cu_calculus.proofs.laws.cited_claims_suffice.Goals as goal

pub returns : goal.returns
returns c = record {
  cited_by_derivation = cited_rows;
  derivations = give_by_rows;
  cited_by_proof = λ program claims steps checks. proof_cited_rows program claims steps checks.follows;
  proofs = checks_by_rows;
}
