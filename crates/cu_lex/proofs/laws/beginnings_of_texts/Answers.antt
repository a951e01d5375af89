use Rattle.cu_lex.proofs.TextBeginnings.{begins_texts}
use Rattle.cu_lex.proofs.laws.beginnings_of_texts.Goals as goal

pub returns : goal.returns
returns c = begins_texts
