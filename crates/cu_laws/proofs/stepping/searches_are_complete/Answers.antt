use Rattle.cu_laws.proofs.SearchesKept.{search_kept}
use Rattle.cu_laws.proofs.stepping.searches_are_complete.Goals as goal

pub returns : goal.returns
returns c = search_kept
