use Rattle.cu_pile.proofs.Claiming.{word_is_bounded}
use Rattle.cu_pile.proofs.bound.claim_word_is_bounded.Goals as goal

pub returns : goal.returns
returns g c = word_is_bounded
