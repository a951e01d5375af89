use Rattle.cu_calculus.specs.Claims.{level_of}
use Rattle.cu_calculus.proofs.CallStatements.{concludes_proved, proved_concludes}
use Rattle.cu_calculus.proofs.TrueClaims.{true_of}
use Rattle.cu_calculus.proofs.laws.calls_have_proofs.Goals as goal

pub returns : goal.returns
returns c = record {
  proved = concludes_proved;
  concluded = proved_concludes;
  derived = λ program f vs v valid. (
    λ d. (
      d.levels,
      d.least,
      d.derives.0,
      d.derives.1,
      concludes_proved program d.derives.0 f vs v valid (true_of program d.levels (level_of d.levels f) d.derives.0 valid d.derives.1) d.derives.2,
    ),
    λ d. record { levels = d.0; least = d.1; derives = (d.2, d.3, proved_concludes program d.2 f vs v d.4) },
  );
  derived_at = λ program levels f vs v valid. (
    λ d. (d.0, d.1, concludes_proved program d.0 f vs v valid (true_of program levels (level_of levels f) d.0 valid d.1) d.2),
    λ d. (d.0, d.1, proved_concludes program d.0 f vs v d.2),
  );
}
