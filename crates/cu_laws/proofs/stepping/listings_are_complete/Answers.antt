use Rattle.cu_laws.proofs.ListingKept.{listing_kept}
use Rattle.cu_laws.proofs.stepping.listings_are_complete.Goals as goal

pub returns : goal.returns
returns c = listing_kept
