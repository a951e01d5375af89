-- What is wrong with the names of a module.
use Rattle.std.specs.Prelude.{ℕ, Bool, true, false, ◌||◌, List, [], ◌∷◌, ◌++◌, Option, None, Some, if◌then◌else◌}
use Rattle.std.specs.List.{filter, flat_map, list_any}
use Rattle.std.specs.Str.{bytes_eq}
use Rattle.cu_entities.specs.Bindings.{Binding}
use Rattle.cu_entities.specs.Entities.{Entity, Types, Values, same_space, space_of}
use Rattle.cu_syntax.specs.Syntax as syntax
use Rattle.cu_syntax.specs.Syntax.{ConstructorsNamed, Export, Goal, Import, ImportList, ModuleName, Name}
use Rattle.cu_uses.specs.Demands.{goal_demands, items_demands}
use Rattle.cu_uses.specs.Faults.{Fault, demand_faults, unless_one, wrong_name}
use Rattle.cu_uses.specs.declared.fault.Wrong.{Wrong}
use Rattle.cu_uses.specs.declared.fault.Wrong.TheVariants.{NotExported}
use Rattle.cu_modules.specs.Scopes.{Interface, Named, constructors_in, export_list, exports_of, imports_of, is_called, is_type_of, meant, names_entity, names_module, own_entities, scope, types_called}

abbrev pub wrong_module : Wrong → ModuleName → Fault
wrong_module wrong name = record { wrong = wrong; at = name.at; name = name.text }

-- the fault that a name isn't exported, unless it is there
abbrev pub unless : Bool → Name → List Fault
unless true name = []
unless false name = wrong_name NotExported name ∷ []

-- the faults of the constructors that a list names beside a type: those that are none of these
-- entities
abbrev pub constructor_faults : List Entity → ConstructorsNamed → List Fault
constructor_faults entities (syntax.Only names) =
    flat_map (λ (c : Name). unless (list_any (is_called c) entities) c) names
constructor_faults entities _ = []

-- ---- imports

abbrev pub import_entity_faults : List Entity → syntax.Entity → List Fault
import_entity_faults exports (syntax.VariableEntity at name) =
    unless (list_any (λ e. names_entity exports e (syntax.VariableEntity at name)) exports) name
import_entity_faults exports (syntax.TypeEntity at name constructors) =
    let ts = types_called name exports in
    (unless (list_any (λ (t : Entity). true) ts) name
    ++ constructor_faults (filter (λ e. list_any (is_type_of e) ts) exports) constructors)

abbrev pub import_list_faults : List Entity → Option ImportList → List Fault
import_list_faults exports None = []
import_list_faults exports (Some list) = flat_map (import_entity_faults exports) list.entities

abbrev pub import_faults : List Interface → Import → List Fault
import_faults before found = import_list_faults (exports_of before found.name.text) found.list

-- ---- exports

-- the constructors that a list may name beside a type: those of what the type's name means
abbrev pub constructors_of : List Binding → List Entity → List Entity
constructors_of bindings ts = flat_map (constructors_in bindings syntax.AllOfThem) ts

abbrev pub export_faults : List Interface → Named → Export → List Fault
export_faults before m (syntax.ModuleExport at name) =
    if bytes_eq name.text m.name || list_any (names_module name.text) (imports_of m) then []
    else wrong_module NotExported name ∷ []
export_faults before m (syntax.EntityExport (syntax.VariableEntity at name)) =
    unless_one NotExported name (meant (scope before m) Values name)
export_faults before m (syntax.EntityExport (syntax.TypeEntity at name constructors)) =
    let ts = meant (scope before m) Types name in
    (unless_one NotExported name ts ++ constructor_faults
    (constructors_of (scope before m) ts) constructors)

abbrev pub export_list_faults : List Interface → Named → Option (List Export) → List Fault
export_list_faults before m None = []
export_list_faults before m (Some exports) = flat_map (export_faults before m) exports

-- ---- texts

-- the texts of a module's own functions and constructors
abbrev pub own_values : Named → List (List ℕ)
own_values m = flat_map (λ (e : Entity). if same_space Values (space_of e.sort) then e.name ∷ []
    else []) (own_entities m)

-- All that is wrong with the names of a module, given the interfaces of the modules before it.
abbrev pub faults : List Interface → Named → List Fault
faults before m =
    export_list_faults before m (export_list m.syntax.header) ++
    (flat_map (import_faults before) (imports_of m)
    ++ demand_faults (scope before m) (items_demands (own_values m) m.syntax.items))

-- All that is wrong with the names of a goal in a module, given the interfaces of the modules
-- before that.
abbrev pub goal_faults : List Interface → Named → Goal → List Fault
goal_faults before m goal = demand_faults (scope before m) (goal_demands goal)
