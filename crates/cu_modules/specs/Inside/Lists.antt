-- Which entities the entries of import and export lists name, by the numbers of names.
use Rattle.std.specs.Prelude.{Bool, true, false, ◌&&◌, ◌||◌, List, if◌then◌else◌, is_none, nat_eq, not}
use Rattle.std.specs.List.{list_any}
use Rattle.cu_entities.specs.declared.entities.Entity.{Entity}
use Rattle.cu_entities.specs.EntityMeaning.{is_constructor_in, is_function_sort, is_type_sort}
use Rattle.cu_syntax.specs.declared.items.Constructors.{Constructors}
use Rattle.cu_syntax.specs.declared.items.Constructors.TheVariants as constructors
use Rattle.cu_syntax.specs.declared.items.Entity as syntax
use Rattle.cu_syntax.specs.declared.items.Entity.TheVariants as entry
use Rattle.cu_syntax.specs.declared.items.ImportList.{ImportList}
use Rattle.cu_syntax.specs.declared.name.Name.{Name}

-- whether an unqualified name is that of an entity
abbrev pub called : Name → Entity → Bool
called name e = is_none name.qualifier && nat_eq name.base.0 e.name.0

-- whether a constructor comes with its type
abbrev pub comes : Constructors → Entity → Bool
comes constructors.None e = false
comes constructors.All e = true
comes (constructors.Only names) e = list_any (λ (name : Name). called name e) names.items

-- whether an entity is a constructor of one of the types that have this name among others
abbrev pub is_beside : Name → List Entity → Entity → Bool
is_beside name entities e =
    list_any (λ (t : Entity). is_type_sort t.sort && called name t
    && is_constructor_in e t) entities

-- whether an entry names an entity among these
abbrev pub lists_entity : List Entity → Entity → syntax.Entity → Bool
lists_entity exports e (entry.Variable at name) = is_function_sort e.sort && called name e
lists_entity exports e (entry.Type at name which) =
    is_type_sort e.sort && called name e || comes which e && is_beside name exports e

-- whether an import with this list leaves out an export of its module
abbrev pub is_left : ImportList → List Entity → Entity → Bool
is_left list exports e = if list.hides then list_any (lists_entity exports e) list.entities.items
    else not (list_any (lists_entity exports e) list.entities.items)
