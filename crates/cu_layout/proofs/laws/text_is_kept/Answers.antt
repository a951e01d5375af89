use Rattle.cu_layout.proofs.LawLemmas.{names-kept, naturals-kept, owners-are, text-restored, tokens-kept}
use Rattle.cu_layout.proofs.laws.text_is_kept.Goals as goal

pub returns : goal.returns
returns c = record { kept = tokens-kept; restored = text-restored; names = names-kept; naturals = naturals-kept; owners = owners-are }
