use Rattle.std.proofs.Common.{◌+◌, arith}
use Rattle.cu_calculus.specs.Claims.{level_of}
use Rattle.cu_laws.proofs.FoundTrue.{all_found_true, found_true}
use Rattle.cu_laws.proofs.finding.found_lists_are_true.Goals as goal

pub returns : goal.returns
returns c = record {
  one = λ program limits levels claim well are found. found_true program limits levels well are (level_of levels claim.function + 1) claim (omega arith) found;
  all = λ program limits levels level claims well are found below. all_found_true program limits levels well are level claims found below;
}
