use Rattle.cu_words.proofs.Spelling.{spelled_check}
use Rattle.cu_words.proofs.laws.all_can_be_checked.Goals as goal

pub returns : goal.returns
returns c = spelled_check
