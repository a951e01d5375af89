use Rattle.cu_flatlaws.proofs.ModuleTextLemmas.{texts_agree}
use Rattle.cu_flatlaws.proofs.laws.printed_texts_agree.Goals as goal

pub returns : goal.returns
returns c = texts_agree
