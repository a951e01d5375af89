-- What items of modules stand for, under a table of names.
use Rattle.std.specs.Prelude.{ℕ, List, map}
use Rattle.std.specs.Option.{option_map}
use Rattle.cu_lex.specs.Reading.{position_of}
use Rattle.cu_syntax.specs.declared.items.ConstructorDeclaration.{ConstructorDeclaration}
use Rattle.cu_syntax.specs.declared.items.Constructors.{Constructors}
use Rattle.cu_syntax.specs.declared.items.Constructors.TheVariants as constructors
use Rattle.cu_syntax.specs.declared.items.Entity.{Entity}
use Rattle.cu_syntax.specs.declared.items.Entity.TheVariants as entity
use Rattle.cu_syntax.specs.declared.items.Export.{Export}
use Rattle.cu_syntax.specs.declared.items.Export.TheVariants as export
use Rattle.cu_syntax.specs.declared.items.Import.{Import}
use Rattle.cu_syntax.specs.declared.items.ImportList.{ImportList}
use Rattle.cu_syntax.specs.declared.items.ItemNode.{ItemNode}
use Rattle.cu_syntax.specs.declared.items.ItemNode.TheVariants as node
use Rattle.cu_syntax.specs.Declarations.{declaration_meaning}
use Rattle.cu_syntax.specs.Names.{module_name_meaning, name_meaning}
use Rattle.cu_syntax.specs.Syntax as syntax
use Rattle.cu_syntax.specs.Types.{type_meaning, types_meaning}

abbrev pub constructors_meaning : List (List ℕ) → Constructors → syntax.ConstructorsNamed
constructors_meaning names constructors.None = syntax.NoneOfThem
constructors_meaning names constructors.All = syntax.AllOfThem
constructors_meaning names (constructors.Only list) =
    syntax.Only (map (name_meaning names) list.items)

abbrev pub entity_meaning : List (List ℕ) → Entity → syntax.Entity
entity_meaning names (entity.Variable at name) =
    syntax.VariableEntity (position_of at) (name_meaning names name)
entity_meaning names (entity.Type at name with) =
    syntax.TypeEntity (position_of at) (name_meaning names name) (constructors_meaning names with)

abbrev pub export_meaning : List (List ℕ) → Export → syntax.Export
export_meaning names (export.Module at name) =
    syntax.ModuleExport (position_of at) (module_name_meaning names name)
export_meaning names (export.Entity found) = syntax.EntityExport (entity_meaning names found)

abbrev pub import_list_meaning : List (List ℕ) → ImportList → syntax.ImportList
import_list_meaning names list =
    record { hides = list.hides; entities = map (entity_meaning names) list.entities.items }

abbrev pub import_meaning : List (List ℕ) → Import → syntax.Import
import_meaning names found = record {
  at = position_of found.place;
  qualified = found.qualified;
  name = module_name_meaning names found.name;
  alias = option_map (module_name_meaning names) found.alias;
  list = option_map (import_list_meaning names) found.list;
}

abbrev pub constructor_meaning : List (List ℕ) → ConstructorDeclaration
    → syntax.ConstructorDeclaration
constructor_meaning names found =
    record {
      at = position_of found.place;
      name = name_meaning names found.name;
      fields = types_meaning names found.fields.items;
    }

-- the item that a node of it stands for
abbrev pub item_node : List (List ℕ) → ItemNode → syntax.Item
item_node names (node.Import found) = syntax.ImportItem (import_meaning names found)
item_node names (node.Fixity at to level operators) =
    syntax.Fixity (position_of at) to level (map (name_meaning names) operators.items)
item_node names (node.Data at name parameters declared) =
    syntax.Data (position_of at) (name_meaning names name)
    (map (name_meaning names) parameters.items) (map (constructor_meaning names) declared.items)
item_node names (node.Synonym at name parameters term) =
    syntax.Synonym (position_of at) (name_meaning names name)
    (map (name_meaning names) parameters.items) (type_meaning names term)
item_node names (node.Declaration found) = syntax.DeclarationItem (declaration_meaning names found)
