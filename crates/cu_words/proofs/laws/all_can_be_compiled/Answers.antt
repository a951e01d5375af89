use Rattle.cu_words.proofs.Spelling.{spelled_compile}
use Rattle.cu_words.proofs.laws.all_can_be_compiled.Goals as goal

pub returns : goal.returns
returns c = spelled_compile
