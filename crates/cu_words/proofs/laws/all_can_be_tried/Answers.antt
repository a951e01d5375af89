use Rattle.cu_words.proofs.Spelling.{spelled_trial}
use Rattle.cu_words.proofs.laws.all_can_be_tried.Goals as goal

pub returns : goal.returns
returns c = spelled_trial
