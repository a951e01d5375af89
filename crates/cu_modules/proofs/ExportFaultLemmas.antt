-- What is wrong with export lists, told fault by fault.
use Rattle.std.proofs.Common.{◌≡◌, ◌∙◌, ◌||◌, ℕ, ◌+◌, ◌<◌, ◌≤◌, Bool, true, false, not, List, [], ◌∷◌, ◌++◌, Option, None, Some, map, take, take_all, get_or, length, refl, sym, ap, ap₂, subst, append-nil, if◌then◌else◌, Result}
use Rattle.std.proofs.lemmas.List.{map_more}
use Rattle.std.proofs.lemmas.List.Concat.{flat_map-append}
use Rattle.std.specs.declared.alloc.AllocError.{AllocError}
use Rattle.std.specs.declared.alloc.Global.{Global}
use Rattle.std.specs.declared.vec.Vec.{Vec}
use Rattle.std.specs.Prelude.{OnOk, nat_eq}
use Rattle.std.specs.List.{flat_map, list_any}
use Rattle.std.specs.Str.{bytes_eq}
use Rattle.cu_entities.specs.declared.entities.Entity as code
use Rattle.cu_entities.specs.declared.entities.Sort as sorts
use Rattle.cu_entities.specs.declared.entities.Sort.TheVariants as sort
use Rattle.cu_entities.specs.Entities.{Entity, Types, Values, same_space, space_of}
use Rattle.cu_entities.specs.EntityMeaning.{entities_meaning, entity_meaning, is_type_sort, sort_meaning}
use Rattle.cu_lex.specs.Located.{Position}
use Rattle.cu_lex.specs.Reading.{position_of}
use Rattle.cu_names.specs.declared.names.NameId.{NameId}
use Rattle.cu_names.specs.declared.place.Place.{Place}
use Rattle.cu_names.specs.Texts.{AllDiffer, IsKnown, text_of}
use Rattle.cu_syntax.specs.declared.items.Constructors.{Constructors}
use Rattle.cu_syntax.specs.declared.items.Entity as entries
use Rattle.cu_syntax.specs.declared.items.Entity.TheVariants as entry
use Rattle.cu_syntax.specs.declared.items.Export.{Export}
use Rattle.cu_syntax.specs.declared.items.Export.TheVariants as export
use Rattle.cu_syntax.specs.declared.items.Import.{Import}
use Rattle.cu_syntax.specs.declared.name.ModuleName.{ModuleName}
use Rattle.cu_syntax.specs.declared.name.Name.{Name}
use Rattle.cu_syntax.specs.Items as items
use Rattle.cu_syntax.specs.Items.{constructors_meaning, export_meaning, import_meaning}
use Rattle.cu_syntax.specs.Names.{module_name_meaning, name_meaning}
use Rattle.cu_syntax.specs.Owners.{ConstructorsAreOf, EntityIsOf, ExportIsOf, ImportIsOf, ModuleNameIsOf, NameIsOf}
use Rattle.cu_syntax.specs.Syntax as syntax
use Rattle.cu_uses.specs.declared.fault.Wrong.TheVariants.{NotExported}
use Rattle.cu_uses.specs.declared.first_fault.FirstFault.{FirstFault}
use Rattle.cu_uses.specs.declared.text_set.TextSet.{TextSet}
use Rattle.cu_uses.specs.Faults.{Fault, unless_one}
use Rattle.cu_uses.specs.Telling.{HasTexts}
use Rattle.cu_modules.specs.Faults.{constructor_faults, constructors_of, export_faults, export_list_faults, wrong_module}
use Rattle.cu_modules.specs.Inside.Imported.{AreImportsOf}
use Rattle.cu_modules.specs.Inside.Telling.{Told}
use Rattle.cu_modules.specs.Known.{AreEntities}
use Rattle.cu_modules.specs.Scopes.{Interface, Named, export_list, imports_of, meant, names_module, scope}
use Rattle.cu_modules.proofs.ExportLemmas.{meanings}
use Rattle.cu_modules.proofs.ListLemmas.{any_alike}
use Rattle.cu_modules.proofs.NameLemmas.{same_name}
use Rattle.cu_modules.proofs.ToldLemmas.{told_as, told_as_ok}

-- ---- modules

pub open_by : (owner : NameId) (names : List (List ℕ)) (imported : List syntax.Import) (slice items : List Import) (id : NameId) (told : Bool)
    → told ≡ (nat_eq id.0 owner.0 || list_any (λ (i : Import). nat_eq i.name.text.0 id.0) slice) → AllDiffer names → IsKnown names id → IsKnown names owner → slice ≡ items → AreImportsOf owner names imported items
    → (bytes_eq (text_of names id) (text_of names owner) || list_any (names_module (text_of names id)) imported) ≡ told
open_by owner names imported slice items id told is differ known known_owner same are =
    sym (is ∙ ap₂ (λ a b. a || b) (same_name names id owner differ known known_owner)
    (ap (list_any (λ (i : Import). nat_eq i.name.text.0 id.0)) same
    ∙ any_alike (ImportIsOf owner names) (import_meaning names) (λ (i : Import). nat_eq i.name.text.0 id.0) (names_module (text_of names id))
    (λ i own. same_name names i.name.text id differ own.1.text known) items are.owned
    ∙ ap (list_any (names_module (text_of names id))) are.are))

-- what an export of a module is wrong with, by whether the module is open
abbrev pub unless_open : Bool → syntax.ModuleName → List Fault
unless_open b name = if b then [] else wrong_module NotExported name ∷ []

pub module_told : (owner : NameId) (names : List (List ℕ)) (before : List Interface) (m : Named) (at : Position) (name : ModuleName) (told : Bool) (a b : FirstFault)
    → (bytes_eq (text_of names name.text) m.name || list_any (names_module (text_of names name.text)) (imports_of m)) ≡ told
    → Told owner names a (unless_open told (module_name_meaning names name)) b → Told owner names a (export_faults before m (syntax.ModuleExport at (module_name_meaning names name))) b
module_told owner names before m at name told a b is tells =
    told_as owner names a b (export_faults before m (syntax.ModuleExport at (module_name_meaning names name))) (unless_open told (module_name_meaning names name))
    (ap (λ b. unless_open b (module_name_meaning names name)) is) tells

-- ---- entries

pub of_module : (owner : NameId) (names : List (List ℕ)) (before : List Interface) (m : Named) (x : Export) (at : Place) (name : ModuleName) (a b : FirstFault) → x ≡ export.Module at name
    → ExportIsOf owner names x
    → (ModuleNameIsOf owner names name → Told owner names a (export_faults before m (syntax.ModuleExport (position_of at) (module_name_meaning names name))) b)
    → Told owner names a (export_faults before m (export_meaning names x)) b
of_module owner names before m x at name a b is own told =
    let owned : ExportIsOf owner names (export.Module at name) = subst (ExportIsOf owner names) is own in
    told_as owner names a b (export_faults before m (export_meaning names x)) (export_faults before m (syntax.ModuleExport (position_of at) (module_name_meaning names name)))
    (ap (λ (x : Export). export_faults before m (export_meaning names x)) is) (told owned.1)

pub of_entity : (owner : NameId) (names : List (List ℕ)) (before : List Interface) (m : Named) (x : Export) (e : entries.Entity) (result : Result (Unit {0}) AllocError) (a b : FirstFault) → x ≡ export.Entity e
    → ExportIsOf owner names x
    → (EntityIsOf owner names e → OnOk result (Told owner names a (export_faults before m (syntax.EntityExport (items.entity_meaning names e))) b))
    → OnOk result (Told owner names a (export_faults before m (export_meaning names x)) b)
of_entity owner names before m x e result a b is own told =
    let owned : ExportIsOf owner names (export.Entity e) = subst (ExportIsOf owner names) is own in
    told_as_ok owner names a b result (export_faults before m (export_meaning names x)) (export_faults before m (syntax.EntityExport (items.entity_meaning names e)))
    (ap (λ (x : Export). export_faults before m (export_meaning names x)) is) (told owned)

-- what is wrong with an entity in a list
abbrev pub entity_faults : List (List ℕ) → List Interface → Named → entries.Entity → List Fault
entity_faults names before m e = export_faults before m (syntax.EntityExport (items.entity_meaning names e))

pub of_value : (owner : NameId) (names : List (List ℕ)) (before : List Interface) (m : Named) (e : entries.Entity) (at : Place) (name : Name) (result : Result (Unit {0}) AllocError) (a b : FirstFault)
    → e ≡ entry.Variable at name → EntityIsOf owner names e
    → (NameIsOf owner names name → OnOk result (Told owner names a (unless_one NotExported (name_meaning names name) (meant (scope before m) Values (name_meaning names name))) b))
    → OnOk result (Told owner names a (entity_faults names before m e) b)
of_value owner names before m e at name result a b is own told =
    let owned : EntityIsOf owner names (entry.Variable at name) = subst (EntityIsOf owner names) is own in
    told_as_ok owner names a b result (entity_faults names before m e) (unless_one NotExported (name_meaning names name) (meant (scope before m) Values (name_meaning names name)))
    (ap (entity_faults names before m) is) (told owned.1)

pub of_type : (owner : NameId) (names : List (List ℕ)) (before : List Interface) (m : Named) (e : entries.Entity) (at : Place) (name : Name) (which : Constructors) (result : Result (Unit {0}) AllocError) (a b : FirstFault)
    → e ≡ entry.Type at name which → EntityIsOf owner names e
    → (NameIsOf owner names name → ConstructorsAreOf owner names which
    → OnOk result (Told owner names a (unless_one NotExported (name_meaning names name) (meant (scope before m) Types (name_meaning names name))
    ++ constructor_faults (constructors_of (scope before m) (meant (scope before m) Types (name_meaning names name))) (constructors_meaning names which)) b))
    → OnOk result (Told owner names a (entity_faults names before m e) b)
of_type owner names before m e at name which result a b is own told =
    let owned : EntityIsOf owner names (entry.Type at name which) = subst (EntityIsOf owner names) is own in
    told_as_ok owner names a b result (entity_faults names before m e)
    (unless_one NotExported (name_meaning names name) (meant (scope before m) Types (name_meaning names name))
    ++ constructor_faults (constructors_of (scope before m) (meant (scope before m) Types (name_meaning names name))) (constructors_meaning names which))
    (ap (entity_faults names before m) is) (told owned.1 owned.2)

-- ---- the list

pub exports_told : (owner : NameId) (names : List (List ℕ)) (before : List Interface) (m : Named) (found : Option (Vec Export Global)) (list : Vec Export Global) (slice : List Export) (result : Result (Unit {0}) AllocError)
    (a b : FirstFault) → found ≡ Some list → slice ≡ list.items → meanings names found ≡ export_list m.syntax.header
    → OnOk result (Told owner names a (flat_map (export_faults before m) (map (export_meaning names) slice)) b)
    → OnOk result (Told owner names a (export_list_faults before m (export_list m.syntax.header)) b)
exports_told owner names before m found list slice result a b some same meaning told =
    told_as_ok owner names a b result (export_list_faults before m (export_list m.syntax.header)) (flat_map (export_faults before m) (map (export_meaning names) slice))
    (ap (export_list_faults before m) (sym meaning ∙ ap (meanings names) some) ∙ ap (λ (xs : List Export). flat_map (export_faults before m) (map (export_meaning names) xs)) (sym same)) told

pub no_export_list : (names : List (List ℕ)) (before : List Interface) (m : Named) (found : Option (Vec Export Global)) → found ≡ None → meanings names found ≡ export_list m.syntax.header
    → export_list_faults before m (export_list m.syntax.header) ≡ []
no_export_list names before m found none meaning = ap (export_list_faults before m) (sym meaning ∙ ap (meanings names) none)

-- ---- own functions and constructors

-- the text of a function or a constructor
abbrev pub value_text : Entity → List (List ℕ)
value_text e = if same_space Values (space_of e.sort) then e.name ∷ [] else []

value_space : (names : List (List ℕ)) (s : sorts.Sort) → same_space Values (space_of (sort_meaning names s)) ≡ not (is_type_sort s)
value_space names sort.Function = refl
value_space names (sort.SetFunction n) = refl
value_space names (sort.Constructor t) = refl
value_space names sort.DataType = refl
value_space names sort.Synonym = refl

values_more : (names : List (List ℕ)) (es : List code.Entity) (i : ℕ) (d : code.Entity) (b : Bool) → i < length es → is_type_sort (get_or es i d).sort ≡ b
    → flat_map value_text (entities_meaning names (take (i + 1) es))
    ≡ flat_map value_text (entities_meaning names (take i es)) ++ (if not b then text_of names (get_or es i d).name ∷ [] else [])
values_more names es i d b within is =
    let prefix = entities_meaning names (take i es) in
    let e = entity_meaning names (get_or es i d) in
    ap (flat_map value_text) (map_more (entity_meaning names) es i d within) ∙ flat_map-append value_text prefix (e ∷ []) ∙ ap (λ fs. flat_map value_text prefix ++ fs) (append-nil (value_text e))
    ∙ ap (λ b. flat_map value_text prefix ++ (if b then text_of names (get_or es i d).name ∷ [] else [])) (value_space names (get_or es i d).sort ∙ ap not is)

pub type_passed : (names : List (List ℕ)) (es : List code.Entity) (i : ℕ) (d : code.Entity) (s : TextSet) → i < length es → is_type_sort (get_or es i d).sort ≡ true
    → HasTexts names (flat_map value_text (entities_meaning names (take i es))) s → HasTexts names (flat_map value_text (entities_meaning names (take (i + 1) es))) s
type_passed names es i d s within is has =
    subst (λ (ts : List (List ℕ)). HasTexts names ts s) (sym (values_more names es i d true within is ∙ append-nil (flat_map value_text (entities_meaning names (take i es))))) has

pub value_added : (names : List (List ℕ)) (es : List code.Entity) (i : ℕ) (d : code.Entity) (s : TextSet) → i < length es → is_type_sort (get_or es i d).sort ≡ false
    → HasTexts names (flat_map value_text (entities_meaning names (take i es)) ++ text_of names (get_or es i d).name ∷ []) s
    → HasTexts names (flat_map value_text (entities_meaning names (take (i + 1) es))) s
value_added names es i d s within is has = subst (λ (ts : List (List ℕ)). HasTexts names ts s) (sym (values_more names es i d false within is)) has

pub all_values : (names : List (List ℕ)) (es : List code.Entity) (mine : List Entity) (i : ℕ) (s : TextSet) → length es ≤ i → AreEntities names mine es
    → HasTexts names (flat_map value_text (entities_meaning names (take i es))) s → HasTexts names (flat_map value_text mine) s
all_values names es mine i s past are has = subst (λ (ms : List Entity). HasTexts names (flat_map value_text ms) s) (ap (entities_meaning names) (take_all i es past) ∙ are.are) has
