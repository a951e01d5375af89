use Rattle.cu_crwl.proofs.StepLaws.{all_follow_from, all_to}
use Rattle.cu_crwl.proofs.TableLaws.{follows_from, follows_to}
use Rattle.cu_crwl.proofs.laws.following_is_decided.Goals as goal

pub returns : goal.returns
returns c = record {
  statement = λ program claims cited env t v. (follows_from program claims cited env t v, follows_to program claims cited env t v);
  steps = λ program claims steps. (all_follow_from program claims steps, all_to program claims steps);
}
