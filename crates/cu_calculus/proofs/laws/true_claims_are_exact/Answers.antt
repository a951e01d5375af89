use Rattle.cu_calculus.proofs.ExactClaims.{exact_true, row_determined, true_exact}
use Rattle.cu_calculus.proofs.laws.true_claims_are_exact.Goals as goal

pub returns : goal.returns
returns c = record {
  exact = λ program levels level claims. (true_exact program levels level claims, exact_true program levels level claims);
  determined = λ program levels level other claims others k m claim twin one two e f.
      row_determined program levels claim twin (true_exact program levels level claims one k claim e).1
      (true_exact program levels other others two m twin f).1;
}
