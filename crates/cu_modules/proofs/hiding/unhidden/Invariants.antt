use Rattle.std.proofs.Common.{ℕ, List, None, map, not, take}
use Rattle.std.specs.List.{All, filter}
use Rattle.cu_entities.specs.Entities as meant
use Rattle.cu_entities.specs.EntityMeaning.{EntityIsKnown, entities_meaning}
use Rattle.cu_modules.specs.Inside.Binding.{IsScope}
use Rattle.cu_modules.specs.Known.{AreEntities}
use Rattle.cu_modules.specs.Scopes.{binding, is_hidden}
use Rattle.cu_modules.proofs.hiding.unhidden.Given as goal

abbrev pub invariant-entities : goal.invariant-entities
invariant-entities l = (names : List (List ℕ)) (mine : List meant.Entity) → IsScope names (map (binding None) mine) l.own → All (EntityIsKnown names) l.entities
    → AreEntities names (filter (λ e. not (is_hidden mine e)) (entities_meaning names (take l.entity-index l.entities))) l.seen.items
