-- Tables of what names mean, under a table of names.
use Rattle.std.specs.HashMap.{get}
use Rattle.std.specs.Prelude.{◌≡◌, ℕ, if◌then◌else◌, List, [], ◌∷◌, ◌++◌, Option, None, Some, IfSome}
use Rattle.std.specs.Option.{option_map}
use Rattle.cu_names.specs.declared.names.NameId.{NameId}
use Rattle.cu_names.specs.Texts.{IsKnown, text_of}
use Rattle.cu_entities.specs.contracts.name_table.KeyPartialEq.TheImpl.{eq-value}
use Rattle.cu_entities.specs.declared.entities.Entity.{Entity}
use Rattle.cu_entities.specs.declared.name_table.Key.{Key}
use Rattle.cu_entities.specs.declared.name_table.Meant.{Meant}
use Rattle.cu_entities.specs.declared.name_table.Meant.TheVariants as meant
use Rattle.cu_entities.specs.declared.name_table.NameTable.{NameTable}
use Rattle.cu_entities.specs.EntityMeaning.{EntityIsKnown, entity_meaning, same_entities, sort_in, space_meaning}
use Rattle.cu_entities.specs.Bindings.{Alone, Binding, Count, Many, counted, meant_by}

abbrev pub count_meaning : List (List ℕ) → Meant → Count
count_meaning names (meant.One e) = Alone (entity_meaning names e)
count_meaning names meant.Several = Many

abbrev pub MeantIsKnown : List (List ℕ) → Meant → Type 0
MeantIsKnown names (meant.One e) = EntityIsKnown names e
MeantIsKnown names meant.Several = Unit {0}

pub record KeyIsKnown (names : List (List ℕ)) (k : Key) : Type 0 where
  pub qualifier : IfSome k.qualifier (IsKnown names)
  pub base : IsKnown names k.base

abbrev pub meant_at : List (List ℕ) → List Binding → Key → Option Count
meant_at names bindings k =
    counted (meant_by bindings (space_meaning k.space) (option_map (text_of names) k.qualifier)
    (text_of names k.base))

-- A look-up finds of each name what it means where these entities are bound.
pub record IsTable (names : List (List ℕ)) (bindings : List Binding)
    (found : Key → Option Meant) : Type 0 where
  pub means : (k : Key) → KeyIsKnown names k → option_map (count_meaning names) (found k)
      ≡ meant_at names bindings k
  pub known : (k : Key) → IfSome (found k) (MeantIsKnown names)

abbrev pub binding_of : List (List ℕ) → Option NameId → Entity → Binding
binding_of names qualifier e =
    record { qualifier = option_map (text_of names) qualifier; entity = entity_meaning names e }

-- these bindings, and one more
abbrev pub with_one : List (List ℕ) → List Binding → Option NameId → Entity → List Binding
with_one names bindings qualifier e = bindings ++ binding_of names qualifier e ∷ []

abbrev pub key_of : Option NameId → Entity → Key
key_of qualifier e = record { qualifier = qualifier; base = e.name; space = sort_in e.sort }

-- A table tells of each name what it means where these entities are bound.
pub record Tells (names : List (List ℕ)) (bindings : List Binding)
    (table : NameTable) : Type 0 where
  pub is_table : IsTable names bindings (get eq-value.it table.meant)

-- what a name means with one more entity
abbrev pub joined : Option Meant → Entity → Meant
joined None e = meant.One e
joined (Some (meant.One f)) e = if same_entities f e then meant.One f else meant.Several
joined (Some meant.Several) e = meant.Several
