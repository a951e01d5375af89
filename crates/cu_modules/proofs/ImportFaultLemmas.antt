-- What is wrong with import lists, told fault by fault.
use Rattle.std.proofs.Common.{◌≡◌, ◌∙◌, ◌&&◌, ℕ, ◌≤◌, Bool, true, false, List, [], ◌++◌, Option, None, Some, map, take, length, refl, sym, ap, ap₂, subst, Result}
use Rattle.std.specs.declared.alloc.AllocError.{AllocError}
use Rattle.std.specs.Option.{option_map}
use Rattle.std.specs.Prelude.{OnOk}
use Rattle.std.specs.List.{filter, flat_map, list_any}
use Rattle.cu_entities.specs.declared.entities.Entity as code
use Rattle.cu_entities.specs.Entities.{Entity}
use Rattle.cu_entities.specs.EntityMeaning.{EntityIsKnown, entities_meaning, entity_meaning, is_type_sort, sort_meaning}
use Rattle.cu_names.specs.declared.names.NameId.{NameId}
use Rattle.cu_names.specs.Texts.{AllDiffer}
use Rattle.cu_names.specs.declared.place.Place.{Place}
use Rattle.cu_syntax.specs.declared.items.Constructors.{Constructors}
use Rattle.cu_syntax.specs.declared.items.Entity as entries
use Rattle.cu_syntax.specs.declared.items.Entity.TheVariants as entry
use Rattle.cu_syntax.specs.declared.items.ImportList.{ImportList}
use Rattle.cu_syntax.specs.declared.name.Name as node
use Rattle.cu_syntax.specs.Items as items
use Rattle.cu_syntax.specs.Items.{constructors_meaning, import_list_meaning}
use Rattle.cu_syntax.specs.Names.{name_meaning}
use Rattle.cu_syntax.specs.Owners.{EntityIsOf, NameIsOf}
use Rattle.cu_syntax.specs.Syntax.{Name}
use Rattle.cu_uses.specs.declared.first_fault.FirstFault.{FirstFault}
use Rattle.cu_modules.specs.Faults.{constructor_faults, import_entity_faults, import_list_faults, unless}
use Rattle.cu_modules.specs.Inside.Lists.{called, lists_entity}
use Rattle.cu_modules.specs.Inside.Telling.{Told}
use Rattle.cu_modules.specs.Known.{AreEntities}
use Rattle.cu_modules.specs.Scopes.{is_called, is_type, is_type_of, names_entity, types_called}
use Rattle.cu_modules.proofs.HidingLemmas.{all_filtered}
use Rattle.cu_modules.proofs.ListLemmas.{any_alike, any_filtered, called_by, lists_by, type_by}
use Rattle.cu_modules.proofs.ToldLemmas.{told_as, told_as_ok}

-- ---- what is exported

pub any_exported : (owner : NameId) (names : List (List ℕ)) (es : List Entity) (exports : List code.Entity) (x : entries.Entity) → AllDiffer names → EntityIsOf owner names x → AreEntities names es exports
    → list_any (λ (e : code.Entity). lists_entity exports e x) exports ≡ list_any (λ (e : Entity). names_entity es e (items.entity_meaning names x)) es
any_exported owner names es exports x differ own are =
    any_alike (EntityIsKnown names) (entity_meaning names) (λ (e : code.Entity). lists_entity exports e x) (λ (e : Entity). names_entity (entities_meaning names exports) e (items.entity_meaning names x))
    (λ e known. lists_by owner names exports e x differ are.known known own) exports are.known
    ∙ ap (λ (es : List Entity). list_any (λ (e : Entity). names_entity es e (items.entity_meaning names x)) es) are.are

and_true : (b : Bool) → b ≡ (b && true)
and_true true = refl
and_true false = refl

pub any_type : (owner : NameId) (names : List (List ℕ)) (es : List Entity) (exports : List code.Entity) (name : node.Name) → AllDiffer names → NameIsOf owner names name → AreEntities names es exports
    → list_any (λ (t : code.Entity). is_type_sort t.sort && called name t) exports ≡ list_any (λ (t : Entity). true) (types_called (name_meaning names name) es)
any_type owner names es exports name differ own are =
    let n = name_meaning names name in
    any_alike (EntityIsKnown names) (entity_meaning names) (λ (t : code.Entity). is_type_sort t.sort && called name t) (λ (t : Entity). (is_type t.sort && is_called n t) && true)
    (λ t known. ap₂ (λ a b. a && b) (type_by names t.sort) (called_by owner names name t differ own known) ∙ and_true (is_type (sort_meaning names t.sort) && is_called n (entity_meaning names t))) exports are.known
    ∙ ap (list_any (λ (t : Entity). (is_type t.sort && is_called n t) && true)) are.are
    ∙ sym (any_filtered (λ (t : Entity). true) (λ (t : Entity). is_type t.sort && is_called n t) es)

-- the constructors of the types of a name
abbrev pub is_one_of : Name → List Entity → Entity → Bool
is_one_of name entities e = list_any (is_type_of e) (types_called name entities)

pub all_beside : (names : List (List ℕ)) (name : Name) (exports : List code.Entity) (es : List Entity) (i : ℕ) (found : List code.Entity) → length exports ≤ i → AreEntities names es exports
    → AreEntities names (filter (is_one_of name (entities_meaning names exports)) (entities_meaning names (take i exports))) found → AreEntities names (filter (is_one_of name es) es) found
all_beside names name exports es i found done are has =
    subst (λ (ts : List Entity). AreEntities names (filter (is_one_of name ts) es) found) are.are
    (all_filtered names (is_one_of name (entities_meaning names exports)) exports es i found done are has)

-- ---- entries

pub value_told : (owner : NameId) (names : List (List ℕ)) (es : List Entity) (exports : List code.Entity) (x : entries.Entity) (place : Place) (name : node.Name) (there : Bool) (a b : FirstFault)
    → x ≡ entry.Variable place name → AllDiffer names → EntityIsOf owner names x → AreEntities names es exports → there ≡ list_any (λ (e : code.Entity). lists_entity exports e x) exports
    → (NameIsOf owner names name → Told owner names a (unless there (name_meaning names name)) b) → Told owner names a (import_entity_faults es (items.entity_meaning names x)) b
value_told owner names es exports x place name there a b is differ own are found told =
    let n = name_meaning names name in
    let owned : EntityIsOf owner names (entry.Variable place name) = subst (EntityIsOf owner names) is own in
    told_as owner names a b (import_entity_faults es (items.entity_meaning names x)) (unless there n)
    (ap (λ (x : entries.Entity). import_entity_faults es (items.entity_meaning names x)) is
    ∙ ap (λ (x : entries.Entity). unless (list_any (λ (e : Entity). names_entity es e (items.entity_meaning names x)) es) n) (sym is)
    ∙ ap (λ b. unless b n) (sym (found ∙ any_exported owner names es exports x differ own are))) (told owned.1)

pub type_told : (owner : NameId) (names : List (List ℕ)) (es : List Entity) (exports : List code.Entity) (x : entries.Entity) (place : Place) (name : node.Name) (which : Constructors)
    (result : Result (Unit {0}) AllocError) (a b : FirstFault) → x ≡ entry.Type place name which → AllDiffer names → EntityIsOf owner names x → AreEntities names es exports
    → OnOk result (Told owner names a (unless (list_any (λ (t : code.Entity). is_type_sort t.sort && called name t) exports) (name_meaning names name)
    ++ constructor_faults (filter (is_one_of (name_meaning names name) es) es) (constructors_meaning names which)) b)
    → OnOk result (Told owner names a (import_entity_faults es (items.entity_meaning names x)) b)
type_told owner names es exports x place name which result a b is differ own are told =
    let n = name_meaning names name in
    let owned : EntityIsOf owner names (entry.Type place name which) = subst (EntityIsOf owner names) is own in
    let beside = constructor_faults (filter (is_one_of n es) es) (constructors_meaning names which) in
    told_as_ok owner names a b result (import_entity_faults es (items.entity_meaning names x))
    (unless (list_any (λ (t : code.Entity). is_type_sort t.sort && called name t) exports) n ++ beside)
    (ap (λ (x : entries.Entity). import_entity_faults es (items.entity_meaning names x)) is
    ∙ ap (λ b. unless b n ++ beside) (sym (any_type owner names es exports name differ owned.1 are))) told

-- ---- lists

pub list_told : (owner : NameId) (names : List (List ℕ)) (exports : List Entity) (o : Option ImportList) (list : ImportList) (slice : List entries.Entity) (result : Result (Unit {0}) AllocError) (a b : FirstFault)
    → o ≡ Some list → slice ≡ list.entities.items
    → OnOk result (Told owner names a (flat_map (import_entity_faults exports) (map (items.entity_meaning names) slice)) b)
    → OnOk result (Told owner names a (import_list_faults exports (option_map (import_list_meaning names) o)) b)
list_told owner names exports o list slice result a b is same told =
    told_as_ok owner names a b result (import_list_faults exports (option_map (import_list_meaning names) o)) (flat_map (import_entity_faults exports) (map (items.entity_meaning names) slice))
    (ap (λ (o : Option ImportList). import_list_faults exports (option_map (import_list_meaning names) o)) is
    ∙ ap (λ (xs : List entries.Entity). flat_map (import_entity_faults exports) (map (items.entity_meaning names) xs)) (sym same)) told

pub no_list : (names : List (List ℕ)) (exports : List Entity) (o : Option ImportList) → o ≡ None → import_list_faults exports (option_map (import_list_meaning names) o) ≡ []
no_list names exports o is = ap (λ (o : Option ImportList). import_list_faults exports (option_map (import_list_meaning names) o)) is
