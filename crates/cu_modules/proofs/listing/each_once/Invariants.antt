use Rattle.std.proofs.Common.{ℕ, List, take}
use Rattle.std.specs.List.{All}
use Rattle.cu_entities.specs.EntityMeaning.{EntityIsKnown, entities_meaning}
use Rattle.cu_entities.specs.EntitySets.{IsSet}
use Rattle.cu_names.specs.Texts.{AllDiffer}
use Rattle.cu_modules.proofs.listing.each_once.Given as goal

abbrev pub invariant-each : goal.invariant-each
invariant-each l = (names : List (List ℕ)) → AllDiffer names → All (EntityIsKnown names) l.entities
    → IsSet names (entities_meaning names (take l.entity-index l.entities)) l.set
