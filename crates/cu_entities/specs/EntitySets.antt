-- Entities, each once.
use Rattle.std.specs.Prelude.{◌≡◌, ℕ, Bool, List}
use Rattle.std.specs.List.{All, list_any}
use Rattle.std.specs.HashSet.{contains}
use Rattle.cu_entities.specs.contracts.entity_set.IdentityPartialEq.TheImpl as identities
use Rattle.cu_entities.specs.declared.entities.Entity as code
use Rattle.cu_entities.specs.declared.entity_set.EntitySet.{EntitySet}
use Rattle.cu_entities.specs.Entities.{Entity, distinct, same_entity}
use Rattle.cu_entities.specs.EntityMeaning.{EntityIsKnown, entities_meaning, entity_meaning, identity_of}

-- whether another entity is the one at hand
abbrev pub alike : Entity → Entity → Bool
alike e f = same_entity f e

-- The set of entities that the code holds is that of these, which were added in this order.
pub record IsSet (names : List (List ℕ)) (entities : List Entity) (s : EntitySet) : Type 0 where
  pub listed : entities_meaning names s.list.items ≡ distinct entities
  pub seen : (e : code.Entity) → EntityIsKnown names e
      → contains identities.eq-value.it s.seen (identity_of e)
      ≡ list_any (alike (entity_meaning names e)) entities
  pub known : All (EntityIsKnown names) s.list.items
