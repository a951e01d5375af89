-- What an entry of an export list exports, and a whole list.
use Rattle.std.proofs.Common.{◌≡◌, ◌∙◌, ℕ, Bool, List, Option, None, Some, map, sym, ap, subst, if◌then◌else◌, Result, Ok, Err}
use Rattle.std.specs.declared.alloc.AllocError.{AllocError}
use Rattle.std.specs.declared.alloc.Global.{Global}
use Rattle.std.specs.declared.vec.Vec.{Vec}
use Rattle.std.specs.List.{All, filter, flat_map}
use Rattle.std.specs.Option.{option_map}
use Rattle.std.specs.Prelude.{IfOk, IfSome, nat_eq}
use Rattle.cu_entities.specs.declared.entities.Entity as code
use Rattle.cu_entities.specs.Entities.{Entity, Types, Values, distinct}
use Rattle.cu_lex.specs.Located.{Position}
use Rattle.cu_lex.specs.Reading.{position_of}
use Rattle.cu_names.specs.declared.names.NameId.{NameId}
use Rattle.cu_names.specs.declared.place.Place.{Place}
use Rattle.cu_names.specs.Texts.{AllDiffer, IsKnown, text_of}
use Rattle.cu_syntax.specs.declared.items.Constructors.{Constructors}
use Rattle.cu_syntax.specs.declared.items.Entity as entries
use Rattle.cu_syntax.specs.declared.items.Entity.TheVariants as entry
use Rattle.cu_syntax.specs.declared.items.Export.{Export}
use Rattle.cu_syntax.specs.declared.items.Export.TheVariants as export
use Rattle.cu_syntax.specs.declared.items.Import.{Import}
use Rattle.cu_syntax.specs.declared.name.ModuleName.{ModuleName}
use Rattle.cu_syntax.specs.declared.name.Name.{Name}
use Rattle.cu_syntax.specs.Items.{constructors_meaning, entity_meaning, export_meaning}
use Rattle.cu_syntax.specs.Names.{module_name_meaning, name_meaning}
use Rattle.cu_syntax.specs.Owners.{ConstructorsAreOf, EntityIsOf, ExportIsOf, ModuleNameIsOf, NameIsOf}
use Rattle.cu_syntax.specs.Syntax as syntax
use Rattle.cu_modules.specs.declared.modules.Module.{Module}
use Rattle.cu_modules.specs.Inside.Imported.{AreImportsOf}
use Rattle.cu_modules.specs.Known.{AreEntities}
use Rattle.cu_modules.specs.Ordering.{module_of}
use Rattle.cu_modules.specs.Scopes.{Interface, Named, export_list, exports_by, exports_listed, imports_of, meant, names_module, own_entities, scope, type_exports, unqualified}
use Rattle.cu_modules.proofs.ListingLemmas.{same_items}
use Rattle.cu_modules.proofs.NameLemmas.{same_name}

-- what the answer is, where it has these entities
abbrev pub Answers : List (List ℕ) → Result (Vec code.Entity Global) AllocError → List Entity → Type 0
Answers names result meant = IfOk result (λ v. AreEntities names meant v.items)

pub copied : (names : List (List ℕ)) (meant : List Entity) (slice : List code.Entity) (result : Result (Vec code.Entity Global) AllocError) → AreEntities names meant slice → IfOk result (λ v. v.items ≡ slice) → Answers names result meant
copied names meant slice (Ok v) are is = same_items names meant slice v.items is are
copied names meant slice (Err e) are is = tt

-- the module itself, or what its imports of a module bring

abbrev pub by_name : List Interface → Named → List ℕ → Bool → List Entity
by_name before m text b = if b then own_entities m else flat_map (unqualified (own_entities m) before) (filter (names_module text) (imports_of m))

pub of_module : (names : List (List ℕ)) (before : List Interface) (m : Module) (at : Position) (name : ModuleName) (same b : Bool) (result : Result (Vec code.Entity Global) AllocError)
    → same ≡ nat_eq name.text.0 m.name.0 → same ≡ b → AllDiffer names → IsKnown names name.text → IsKnown names m.name
    → Answers names result (by_name before (module_of names m) (text_of names name.text) b) → Answers names result (exports_by before (module_of names m) (syntax.ModuleExport at (module_name_meaning names name)))
of_module names before m at name same b result told settled differ known own answer =
    subst (λ b. Answers names result (by_name before (module_of names m) (text_of names name.text) b)) (sym (sym (same_name names name.text m.name differ known own) ∙ sym told ∙ settled)) answer

-- ---- the list

abbrev pub meanings : List (List ℕ) → Option (Vec Export Global) → Option (List syntax.Export)
meanings names list = option_map (λ (exports : Vec Export Global). map (export_meaning names) exports.items) list

pub in_header : (names : List (List ℕ)) (o : Option syntax.Header) (header : syntax.Header) (result : Result (Option (Vec Export Global)) AllocError) → o ≡ Some header
    → IfOk result (λ found. meanings names found ≡ header.exports) → IfOk result (λ found. meanings names found ≡ export_list o)
in_header names o header result is has = subst (λ (o : Option syntax.Header). IfOk result (λ found. meanings names found ≡ export_list o)) (sym is) has

pub without_list : (names : List (List ℕ)) (before : List Interface) (m : Named) (told : Option (Vec Export Global)) (result : Result (Vec code.Entity Global) AllocError) → told ≡ None → meanings names told ≡ export_list m.syntax.header
    → Answers names result (distinct (own_entities m)) → Answers names result (distinct (exports_listed before m (export_list m.syntax.header)))
without_list names before m told result none meaning answer =
    subst (λ (o : Option (List syntax.Export)). Answers names result (distinct (exports_listed before m o))) (ap (meanings names) (sym none) ∙ meaning) answer

pub with_list : (names : List (List ℕ)) (before : List Interface) (m : Named) (told : Option (Vec Export Global)) (list : Vec Export Global) (result : Result (Vec code.Entity Global) AllocError) → told ≡ Some list
    → meanings names told ≡ export_list m.syntax.header → Answers names result (distinct (flat_map (exports_by before m) (map (export_meaning names) list.items)))
    → Answers names result (distinct (exports_listed before m (export_list m.syntax.header)))
with_list names before m told list result some meaning answer =
    subst (λ (o : Option (List syntax.Export)). Answers names result (distinct (exports_listed before m o))) (ap (meanings names) (sym some) ∙ meaning) answer

pub list_owned : (owner : NameId) (names : List (List ℕ)) (told : Option (Vec Export Global)) (list : Vec Export Global) (slice : List Export) → told ≡ Some list → slice ≡ list.items
    → IfSome told (λ (exports : Vec Export Global). All (ExportIsOf owner names) exports.items) → All (ExportIsOf owner names) slice
list_owned owner names told list slice some same owned =
    subst (All (ExportIsOf owner names)) (sym same) (subst (λ (o : Option (Vec Export Global)). IfSome o (λ (exports : Vec Export Global). All (ExportIsOf owner names) exports.items)) some owned)

-- what is listed in a slice of the list
pub listed_as : (names : List (List ℕ)) (before : List Interface) (m : Named) (slice items : List Export) (copy found : List code.Entity) → slice ≡ items → copy ≡ found
    → AreEntities names (flat_map (exports_by before m) (map (export_meaning names) slice)) found → AreEntities names (flat_map (exports_by before m) (map (export_meaning names) items)) copy
listed_as names before m slice items copy found same is has =
    same_items names (flat_map (exports_by before m) (map (export_meaning names) items)) found copy is
    (subst (λ (xs : List Export). AreEntities names (flat_map (exports_by before m) (map (export_meaning names) xs)) found) same has)

-- ---- entries

pub imports_in : (owner : NameId) (names : List (List ℕ)) (meant : List syntax.Import) (slice items : List Import) → slice ≡ items → AreImportsOf owner names meant items → AreImportsOf owner names meant slice
imports_in owner names meant slice items same are = subst (AreImportsOf owner names meant) (sym same) are

pub entry_of_module : (owner : NameId) (names : List (List ℕ)) (before : List Interface) (m : Named) (x : Export) (at : Place) (name : ModuleName) (result : Result (Vec code.Entity Global) AllocError)
    → x ≡ export.Module at name → ExportIsOf owner names x
    → (ModuleNameIsOf owner names name → Answers names result (exports_by before m (syntax.ModuleExport (position_of at) (module_name_meaning names name)))) → Answers names result (exports_by before m (export_meaning names x))
entry_of_module owner names before m x at name result is own answer =
    let owned : ExportIsOf owner names (export.Module at name) = subst (ExportIsOf owner names) is own in
    subst (λ (x : Export). Answers names result (exports_by before m (export_meaning names x))) (sym is) (answer owned.1)

pub entry_of_entity : (owner : NameId) (names : List (List ℕ)) (before : List Interface) (m : Named) (x : Export) (e : entries.Entity) (result : Result (Vec code.Entity Global) AllocError)
    → x ≡ export.Entity e → ExportIsOf owner names x
    → (EntityIsOf owner names e → Answers names result (exports_by before m (syntax.EntityExport (entity_meaning names e)))) → Answers names result (exports_by before m (export_meaning names x))
entry_of_entity owner names before m x e result is own answer =
    let owned : ExportIsOf owner names (export.Entity e) = subst (ExportIsOf owner names) is own in
    subst (λ (x : Export). Answers names result (exports_by before m (export_meaning names x))) (sym is) (answer owned)

-- what an entity of a list exports
abbrev pub by_entity : List (List ℕ) → List Interface → Named → entries.Entity → List Entity
by_entity names before m e = exports_by before m (syntax.EntityExport (entity_meaning names e))

pub of_variable : (owner : NameId) (names : List (List ℕ)) (before : List Interface) (m : Named) (e : entries.Entity) (at : Place) (name : Name) (result : Result (Vec code.Entity Global) AllocError)
    → e ≡ entry.Variable at name → EntityIsOf owner names e
    → (NameIsOf owner names name → Answers names result (meant (scope before m) Values (name_meaning names name))) → Answers names result (by_entity names before m e)
of_variable owner names before m e at name result is own answer =
    let owned : EntityIsOf owner names (entry.Variable at name) = subst (EntityIsOf owner names) is own in
    subst (λ (e : entries.Entity). Answers names result (by_entity names before m e)) (sym is) (answer owned.1)

pub of_type : (owner : NameId) (names : List (List ℕ)) (before : List Interface) (m : Named) (e : entries.Entity) (at : Place) (name : Name) (which : Constructors) (result : Result (Vec code.Entity Global) AllocError)
    → e ≡ entry.Type at name which → EntityIsOf owner names e
    → (NameIsOf owner names name → ConstructorsAreOf owner names which
    → Answers names result (type_exports (scope before m) (constructors_meaning names which) (meant (scope before m) Types (name_meaning names name)))) → Answers names result (by_entity names before m e)
of_type owner names before m e at name which result is own answer =
    let owned : EntityIsOf owner names (entry.Type at name which) = subst (EntityIsOf owner names) is own in
    subst (λ (e : entries.Entity). Answers names result (by_entity names before m e)) (sym is) (answer owned.1 owned.2)
