use Rattle.cu_search.proofs.ListingLemmas.{bytes-ends, left-last}
use Rattle.cu_search.proofs.laws.a_round_may_be_last.Goals as goal

pub returns : goal.returns
returns c = record { listing = left-last; bytes = bytes-ends }
