use Rattle.cu_words.proofs.Spelling.{spelled_session}
use Rattle.cu_words.proofs.laws.sessions_can_be_asked.Goals as goal

pub returns : goal.returns
returns c = spelled_session
