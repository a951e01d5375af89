-- What lists of entities stand for, under a table of names.
use Rattle.std.specs.Prelude.{◌≡◌, ℕ, List, map}
use Rattle.std.specs.Borrow.{Bor}
use Rattle.std.specs.List.{All}
use Rattle.cu_entities.specs.declared.entities.Entity as code
use Rattle.cu_entities.specs.Entities.{Entity}
use Rattle.cu_entities.specs.EntityMeaning.{EntityIsKnown, entities_meaning}

-- the texts in a slice of texts
abbrev pub listed_texts : List (Bor (List ℕ)) → List (List ℕ)
listed_texts texts = map (λ (t : Bor (List ℕ)). t.now) texts

-- The entities of the code stand for these, and a table has all their names.
pub record AreEntities (names : List (List ℕ)) (meant : List Entity)
    (entities : List code.Entity) : Type 0 where
  pub are : entities_meaning names entities ≡ meant
  pub known : All (EntityIsKnown names) entities
