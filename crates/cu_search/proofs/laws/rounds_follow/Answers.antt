use Rattle.cu_search.proofs.ListingLemmas.{bytes-goes_on, left-goes_on, round-goes_on}
use Rattle.cu_search.proofs.laws.rounds_follow.Goals as goal

pub returns : goal.returns
returns c = record { listing = left-goes_on; bytes = bytes-goes_on; within = round-goes_on }
