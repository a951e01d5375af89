use Rattle.cu_laws.proofs.Solved.{listing_covers, listing_covers_least}
use Rattle.cu_laws.proofs.finding.exhausted_listings_cover.Goals as goal

pub returns : goal.returns
returns c = record { at_level = listing_covers; least = listing_covers_least }
