-- Which entities a module's names mean, and which of them the module exports (Curry Report,
-- "Modules").
use Rattle.std.specs.Prelude.{ℕ, Bool, true, false, ◌&&◌, ◌||◌, not, List, [], ◌∷◌, ◌++◌, Option, None, Some, map, is_none, if◌then◌else◌}
use Rattle.std.specs.List.{filter, flat_map, list_any}
use Rattle.std.specs.Str.{bytes_eq}
use Rattle.cu_lex.specs.Located.{first_position}
use Rattle.cu_syntax.specs.Syntax as syntax
use Rattle.cu_syntax.specs.Syntax.{ConstructorsNamed, Export, Header, Import, ImportList, Item, Module, ModuleName, Name}
use Rattle.cu_entities.specs.Bindings.{Binding, entities_of, meant_by}
use Rattle.cu_entities.specs.Entities.{Constructor, DataType, Entity, Function, SetFunction, Sort, Space, Synonym, Types, Values, distinct, same_space, space_of}
use Rattle.cu_modules.specs.BuiltInEntities.{cons, prelude_name}
use Rattle.cu_modules.specs.OwnEntities.{own}

-- a module, under the name by which it was looked for
pub record Named : Type 0 where
  pub name : List ℕ
  pub syntax : Module

-- what a module exports
pub record Interface : Type 0 where
  pub name : List ℕ
  pub entities : List Entity

-- ---- imports

abbrev pub imports_by : Item → List Import
imports_by (syntax.ImportItem found) = found ∷ []
imports_by _ = []

abbrev pub names_module : List ℕ → Import → Bool
names_module name found = bytes_eq found.name.text name

-- the import of the whole Prelude, at the start of a text
abbrev pub prelude_import : Import
prelude_import = record {
  at = first_position;
  qualified = false;
  name = record { text = prelude_name; at = first_position };
  alias = None;
  list = None;
}

-- The imports of a module. That of the whole Prelude is the first, unless the module is the Prelude
-- or one of its imports names it.
abbrev pub imports_of : Named → List Import
imports_of m =
    let written = flat_map imports_by m.syntax.items in
    (if bytes_eq m.name prelude_name || list_any (names_module prelude_name) written then written
    else prelude_import ∷ written)

-- what the module of this name exports, by the interfaces of the modules before
abbrev pub exports_of : List Interface → List ℕ → List Entity
exports_of before name =
    flat_map (λ (i : Interface). i.entities)
    (filter (λ (i : Interface). bytes_eq i.name name) before)

-- ---- entities that a list names

-- whether an unqualified name is that of an entity
abbrev pub is_called : Name → Entity → Bool
is_called name e = is_none name.qualifier && bytes_eq name.base e.name

abbrev pub is_function : Sort → Bool
is_function Function = true
is_function (SetFunction n) = true
is_function _ = false

abbrev pub is_type : Sort → Bool
is_type DataType = true
is_type Synonym = true
is_type _ = false

-- whether a constructor is of a type of this name
abbrev pub is_constructor_of : List ℕ → Sort → Bool
is_constructor_of t (Constructor s) = bytes_eq s t
is_constructor_of t _ = false

-- whether a constructor comes with its type
abbrev pub comes_with : ConstructorsNamed → Entity → Bool
comes_with syntax.NoneOfThem e = false
comes_with syntax.AllOfThem e = true
comes_with (syntax.Only names) e = list_any (λ name. is_called name e) names

-- whether a type is that of a constructor
abbrev pub is_type_of : Entity → Entity → Bool
is_type_of e t = is_type t.sort && (bytes_eq e.owner t.owner && is_constructor_of t.name e.sort)

-- the types that a name could mean among entities
abbrev pub types_called : Name → List Entity → List Entity
types_called name entities = filter (λ (t : Entity). is_type t.sort && is_called name t) entities

-- whether a part of an import list names an entity among these exports
abbrev pub names_entity : List Entity → Entity → syntax.Entity → Bool
names_entity exports e (syntax.VariableEntity at name) = is_function e.sort && is_called name e
names_entity exports e (syntax.TypeEntity at name constructors) =
    (is_type e.sort && is_called name e)
    || (comes_with constructors e && list_any (is_type_of e) (types_called name exports))

-- what an import takes of the exports of its module
abbrev pub taken : Option ImportList → List Entity → List Entity
taken None exports = exports
taken (Some list) exports =
    if list.hides then filter (λ e. not (list_any (names_entity exports e) list.entities)) exports
    else filter (λ e. list_any (names_entity exports e) list.entities) exports

-- ---- scopes

-- the qualifier that an import gives
abbrev pub qualifier_of : Option ModuleName → ModuleName → List ℕ
qualifier_of None name = name.text
qualifier_of (Some alias) name = alias.text

abbrev pub binding : Option (List ℕ) → Entity → Binding
binding qualifier e = record { qualifier = qualifier; entity = e }

abbrev pub imported : List Interface → Import → List Entity
imported before found = taken found.list (exports_of before found.name.text)

-- whether an own entity of a module hides an imported one: it has the same name, in the same name
-- space
abbrev pub is_hidden : List Entity → Entity → Bool
is_hidden mine e =
    list_any (λ (o : Entity). bytes_eq o.name e.name
    && same_space (space_of o.sort) (space_of e.sort)) mine

-- the entities that an import brings without a qualifier into a module with these own entities
abbrev pub unqualified : List Entity → List Interface → Import → List Entity
unqualified mine before found = if found.qualified then []
    else filter (λ e. not (is_hidden mine e)) (imported before found)

abbrev pub import_bindings : List Entity → List Interface → Import → List Binding
import_bindings mine before found =
    map (binding (Some (qualifier_of found.alias found.name))) (imported before found)
    ++ map (binding None) (unqualified mine before found)

abbrev pub own_bindings : List ℕ → List Entity → List Binding
own_bindings name mine = map (binding (Some name)) mine ++ map (binding None) mine

abbrev pub own_entities : Named → List Entity
own_entities m = own m.name m.syntax.items

-- The scope of a module, given the interfaces of the modules before it. The constructor `:` is
-- always in scope.
abbrev pub scope : List Interface → Named → List Binding
scope before m =
    binding None cons ∷ own_bindings m.name (own_entities m)
    ++ flat_map (import_bindings (own_entities m) before) (imports_of m)

-- the entities that a name means in a scope, each once
abbrev pub meant : List Binding → Space → Name → List Entity
meant bindings space name = meant_by bindings space name.qualifier name.base

-- ---- exports

-- the constructors of a type that come with it and that some name means
abbrev pub constructors_in : List Binding → ConstructorsNamed → Entity → List Entity
constructors_in bindings constructors t =
    filter (λ e. is_type_of e t && comes_with constructors e) (entities_of bindings)

abbrev pub type_exports : List Binding → ConstructorsNamed → List Entity → List Entity
type_exports bindings constructors ts = ts ++ flat_map (constructors_in bindings constructors) ts

abbrev pub exports_by : List Interface → Named → Export → List Entity
exports_by before m (syntax.ModuleExport at name) =
    if bytes_eq name.text m.name then own_entities m
    else flat_map (unqualified (own_entities m) before)
    (filter (names_module name.text) (imports_of m))
exports_by before m (syntax.EntityExport (syntax.VariableEntity at name)) =
    meant (scope before m) Values name
exports_by before m (syntax.EntityExport (syntax.TypeEntity at name constructors)) =
    type_exports (scope before m) constructors (meant (scope before m) Types name)

abbrev pub exports_listed : List Interface → Named → Option (List Export) → List Entity
exports_listed before m None = own_entities m
exports_listed before m (Some exports) = flat_map (exports_by before m) exports

abbrev pub export_list : Option Header → Option (List Export)
export_list None = None
export_list (Some header) = header.exports

-- What a module exports: what its export list names, each entity once, or its own entities where it
-- has no list.
abbrev pub exported : List Interface → Named → List Entity
exported before m = distinct (exports_listed before m (export_list m.syntax.header))

abbrev pub interface : List Interface → Named → Interface
interface before m = record { name = m.name; entities = exported before m }

-- the interfaces of modules, after those of others
abbrev pub interfaces : List Interface → List Named → List Interface
interfaces before [] = before
interfaces before (m ∷ modules) = interfaces (before ++ interface before m ∷ []) modules
