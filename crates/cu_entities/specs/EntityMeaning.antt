-- What entities of the code stand for, under a table of names.
use Rattle.std.specs.Prelude.{ℕ, Bool, true, false, ◌&&◌, List, map, nat_eq}
use Rattle.cu_names.specs.declared.names.NameId.{NameId}
use Rattle.cu_names.specs.Texts.{IsKnown, text_of}
use Rattle.cu_entities.specs.declared.entities.Entity.{Entity}
use Rattle.cu_entities.specs.declared.entity_set.Identity.{Identity}
use Rattle.cu_entities.specs.declared.entities.Sort.{Sort}
use Rattle.cu_entities.specs.declared.entities.Sort.TheVariants as sort
use Rattle.cu_entities.specs.declared.entities.Space.{Space}
use Rattle.cu_entities.specs.declared.entities.Space.TheVariants as space
use Rattle.cu_entities.specs.Entities as meant
use Rattle.cu_entities.specs.Entities.{same_space}

abbrev pub space_meaning : Space → meant.Space
space_meaning space.Types = meant.Types
space_meaning space.Values = meant.Values

abbrev pub sort_meaning : List (List ℕ) → Sort → meant.Sort
sort_meaning names sort.Function = meant.Function
sort_meaning names (sort.SetFunction n) = meant.SetFunction n
sort_meaning names (sort.Constructor id) = meant.Constructor (text_of names id)
sort_meaning names sort.DataType = meant.DataType
sort_meaning names sort.Synonym = meant.Synonym

abbrev pub entity_meaning : List (List ℕ) → Entity → meant.Entity
entity_meaning names e =
    record {
      owner = text_of names e.owner;
      name = text_of names e.name;
      sort = sort_meaning names e.sort;
    }

abbrev pub entities_meaning : List (List ℕ) → List Entity → List meant.Entity
entities_meaning names entities = map (entity_meaning names) entities

-- ---- name spaces and identity, decided by the numbers of names

abbrev pub sort_in : Sort → Space
sort_in sort.DataType = space.Types
sort_in sort.Synonym = space.Types
sort_in _ = space.Values

abbrev pub same_spaces : Space → Space → Bool
same_spaces s t = same_space (space_meaning s) (space_meaning t)

abbrev pub is_function_sort : Sort → Bool
is_function_sort sort.Function = true
is_function_sort (sort.SetFunction n) = true
is_function_sort _ = false

abbrev pub is_type_sort : Sort → Bool
is_type_sort sort.DataType = true
is_type_sort sort.Synonym = true
is_type_sort _ = false

abbrev pub same_entities : Entity → Entity → Bool
same_entities e f = nat_eq e.owner.0 f.owner.0
    && (nat_eq e.name.0 f.name.0 && same_spaces (sort_in e.sort) (sort_in f.sort))

abbrev pub is_of_type : Entity → NameId → Sort → Bool
is_of_type t owner (sort.Constructor id) =
    is_type_sort t.sort && (nat_eq owner.0 t.owner.0 && nat_eq id.0 t.name.0)
is_of_type t owner _ = false

abbrev pub is_constructor_in : Entity → Entity → Bool
is_constructor_in e t = is_of_type t e.owner e.sort

abbrev pub identity_of : Entity → Identity
identity_of e = record { owner = e.owner; name = e.name; space = sort_in e.sort }

-- ---- numbers that a table has

abbrev pub SortIsKnown : List (List ℕ) → Sort → Type 0
SortIsKnown names (sort.Constructor id) = IsKnown names id
SortIsKnown names _ = Unit {0}

pub record EntityIsKnown (names : List (List ℕ)) (e : Entity) : Type 0 where
  pub owner : IsKnown names e.owner
  pub name : IsKnown names e.name
  pub sort : SortIsKnown names e.sort
