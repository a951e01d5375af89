use Rattle.cu_words.proofs.Spelling.{spelled}
use Rattle.cu_words.proofs.laws.all_can_be_asked.Goals as goal

pub returns : goal.returns
returns c = spelled
