use Rattle.cu_translation.specs.Sites.{Spot}
use Rattle.cu_sites.specs.Meaning.{IsSpotIn}
use Rattle.cu_locals.specs.Text.{Text}
use Rattle.cu_sites.proofs.TopLemmas.{Scoped}
use Rattle.cu_sites.proofs.sites.Sites.scope.Given as goal

abbrev pub invariant-loop-number : goal.invariant-loop-number
invariant-loop-number l =
    (t : Text) (spot : Spot) → IsSpotIn t l.self l.fn.at spot → Scoped t l.self.entries.items spot.scope l.number l.found.items

abbrev pub decreases-loop-number : goal.decreases-loop-number
decreases-loop-number l = l.number
