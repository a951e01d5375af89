use Rattle.cu_calculus.proofs.Matches.{all_matched_rises, bind_all_rises, matched_rises}
use Rattle.cu_calculus.proofs.laws.matches_rise.Goals as goal

pub returns : goal.returns
returns c = record {
  one = λ p u v low h e. let found = matched_rises p u v low h e in (found.high, found.is, found.above);
  all = λ ps us vs low h e. let found = all_matched_rises ps us vs low h e in (found.high, found.is, found.above);
  environments = bind_all_rises;
}
