-- Names that are bound to entities.
use Rattle.std.specs.Prelude.{ℕ, Bool, true, false, ◌&&◌, List, [], ◌∷◌, Option, None, Some, map}
use Rattle.std.specs.List.{filter}
use Rattle.std.specs.Str.{bytes_eq}
use Rattle.cu_entities.specs.Entities.{Entity, Space, distinct, same_space, space_of}

-- An entity that a text can name, with this qualifier or without one.
pub record Binding : Type 0 where
  pub qualifier : Option (List ℕ)
  pub entity : Entity

abbrev pub same_qualifier : Option (List ℕ) → Option (List ℕ) → Bool
same_qualifier None None = true
same_qualifier (Some p) (Some q) = bytes_eq p q
same_qualifier _ _ = false

-- whether a name in a name space, written with this qualifier, if any, and this base, means what is
-- bound
abbrev pub is_bound : Space → Option (List ℕ) → List ℕ → Binding → Bool
is_bound space qualifier base b = same_qualifier qualifier b.qualifier
    && (bytes_eq base b.entity.name && same_space space (space_of b.entity.sort))

abbrev pub entities_of : List Binding → List Entity
entities_of bindings = map (λ (b : Binding). b.entity) bindings

abbrev pub meant_by : List Binding → Space → Option (List ℕ) → List ℕ → List Entity
meant_by bindings space qualifier base =
    distinct (entities_of (filter (is_bound space qualifier base) bindings))

-- how many entities a name means: one, which is this, or more
pub data Count : Type 0 where
  Alone : Entity → Count
  Many : Count

abbrev pub counted : List Entity → Option Count
counted [] = None
counted (e ∷ []) = Some (Alone e)
counted (e ∷ f ∷ entities) = Some Many
