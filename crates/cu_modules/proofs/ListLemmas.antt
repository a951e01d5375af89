-- What the entries of import lists name, by numbers and by texts.
use Rattle.std.proofs.Common.{◌≡◌, ◌∙◌, ◌&&◌, ◌||◌, not, ℕ, Bool, true, false, List, [], ◌∷◌, Option, None, Some, map, take, length, ◌≤◌, refl, sym, ap, ap₂, subst, if◌then◌else◌, is_none}
use Rattle.std.proofs.lemmas.List.Elements.{All-head, All-tail}
use Rattle.std.specs.List.{All, filter, list_any}
use Rattle.std.specs.Option.{option_map}
use Rattle.std.specs.Str.{bytes_eq}
use Rattle.cu_entities.specs.declared.entities.Entity as code
use Rattle.cu_entities.specs.declared.entities.Sort as sorts
use Rattle.cu_entities.specs.declared.entities.Sort.TheVariants as sort
use Rattle.cu_entities.specs.Entities.{Entity}
use Rattle.cu_entities.specs.EntityMeaning.{EntityIsKnown, SortIsKnown, entities_meaning, entity_meaning, is_constructor_in, is_function_sort, is_of_type, is_type_sort, sort_meaning}
use Rattle.cu_names.specs.declared.names.NameId.{NameId}
use Rattle.cu_names.specs.Texts.{AllDiffer, text_of}
use Rattle.cu_syntax.specs.declared.items.Constructors.{Constructors}
use Rattle.cu_syntax.specs.declared.items.Constructors.TheVariants as constructors
use Rattle.cu_syntax.specs.declared.items.Entity as entries
use Rattle.cu_syntax.specs.declared.items.Entity.TheVariants as entry
use Rattle.cu_syntax.specs.declared.items.ImportList.{ImportList}
use Rattle.cu_syntax.specs.declared.name.Name.{Name}
use Rattle.cu_syntax.specs.Items as items
use Rattle.cu_syntax.specs.Items.{constructors_meaning, import_list_meaning}
use Rattle.cu_syntax.specs.Names.{name_meaning}
use Rattle.cu_syntax.specs.Owners.{ConstructorsAreOf, EntityIsOf, ImportListIsOf, NameIsOf}
use Rattle.cu_syntax.specs.Syntax as syntax
use Rattle.cu_modules.specs.Inside.Lists.{called, comes, is_beside, is_left, lists_entity}
use Rattle.cu_modules.specs.Scopes.{comes_with, is_called, is_constructor_of, is_function, is_type, is_type_of, names_entity, taken, types_called}
use Rattle.cu_modules.specs.Known.{AreEntities}
use Rattle.cu_modules.proofs.HidingLemmas.{all_filtered}
use Rattle.cu_modules.proofs.NameLemmas.{same_name}

-- ---- lists

-- tests that agree on what stands for what
pub any_alike : {A B : Type 0} (P : A → Type 0) (f : A → B) (test : A → Bool) (other : B → Bool) → ((a : A) → P a → test a ≡ other (f a)) → (xs : List A) → All P xs
    → list_any test xs ≡ list_any other (map f xs)
any_alike P f test other same [] known = refl
any_alike P f test other same (x ∷ xs) known = ap₂ (λ a b. a || b) (same x (All-head P x xs known)) (any_alike P f test other same xs (All-tail P x xs known))

pub any_filtered : {A : Type 0} (test keep : A → Bool) (xs : List A) → list_any test (filter keep xs) ≡ list_any (λ x. keep x && test x) xs
any_filtered test keep [] = refl
any_filtered test keep (x ∷ xs) = by (keep x) (any_filtered test keep xs)
  where
    by : (b : Bool) → list_any test (filter keep xs) ≡ list_any (λ x. keep x && test x) xs
        → list_any test (if b then x ∷ filter keep xs else filter keep xs) ≡ ((b && test x) || list_any (λ x. keep x && test x) xs)
    by true later = ap (λ b. test x || b) later
    by false later = later

-- ---- names and sorts

no_qualifier : (names : List (List ℕ)) (q : Option NameId) → is_none q ≡ is_none (option_map (text_of names) q)
no_qualifier names None = refl
no_qualifier names (Some id) = refl

pub called_by : (owner : NameId) (names : List (List ℕ)) (name : Name) (e : code.Entity) → AllDiffer names → NameIsOf owner names name → EntityIsKnown names e
    → called name e ≡ is_called (name_meaning names name) (entity_meaning names e)
called_by owner names name e differ own known = ap₂ (λ a b. a && b) (no_qualifier names name.qualifier) (same_name names name.base e.name differ own.base known.name)

pub type_by : (names : List (List ℕ)) (s : sorts.Sort) → is_type_sort s ≡ is_type (sort_meaning names s)
type_by names sort.Function = refl
type_by names (sort.SetFunction n) = refl
type_by names (sort.Constructor t) = refl
type_by names sort.DataType = refl
type_by names sort.Synonym = refl

function_by : (names : List (List ℕ)) (s : sorts.Sort) → is_function_sort s ≡ is_function (sort_meaning names s)
function_by names sort.Function = refl
function_by names (sort.SetFunction n) = refl
function_by names (sort.Constructor t) = refl
function_by names sort.DataType = refl
function_by names sort.Synonym = refl

never : (a b : Bool) → false ≡ (a && (b && false))
never true true = refl
never true false = refl
never false b = refl

pub type_of_by : (names : List (List ℕ)) (e t : code.Entity) → AllDiffer names → EntityIsKnown names e → EntityIsKnown names t → is_constructor_in e t ≡ is_type_of (entity_meaning names e) (entity_meaning names t)
type_of_by names e t differ known known_t = by e.sort known.sort
  where
    by : (s : sorts.Sort) → SortIsKnown names s
        → is_of_type t e.owner s ≡ (is_type (sort_meaning names t.sort) && (bytes_eq (text_of names e.owner) (text_of names t.owner) && is_constructor_of (text_of names t.name) (sort_meaning names s)))
    by sort.Function has = never (is_type (sort_meaning names t.sort)) (bytes_eq (text_of names e.owner) (text_of names t.owner))
    by (sort.SetFunction n) has = never (is_type (sort_meaning names t.sort)) (bytes_eq (text_of names e.owner) (text_of names t.owner))
    by (sort.Constructor id) has =
        ap₂ (λ a b. a && b) (type_by names t.sort) (ap₂ (λ a b. a && b) (same_name names e.owner t.owner differ known.owner known_t.owner) (same_name names id t.name differ has known_t.name))
    by sort.DataType has = never (is_type (sort_meaning names t.sort)) (bytes_eq (text_of names e.owner) (text_of names t.owner))
    by sort.Synonym has = never (is_type (sort_meaning names t.sort)) (bytes_eq (text_of names e.owner) (text_of names t.owner))

-- ---- entries

pub comes_by : (owner : NameId) (names : List (List ℕ)) (which : Constructors) (e : code.Entity) → AllDiffer names → ConstructorsAreOf owner names which → EntityIsKnown names e
    → comes which e ≡ comes_with (constructors_meaning names which) (entity_meaning names e)
comes_by owner names constructors.None e differ own known = refl
comes_by owner names constructors.All e differ own known = refl
comes_by owner names (constructors.Only list) e differ own known =
    any_alike (NameIsOf owner names) (name_meaning names) (λ (name : Name). called name e) (λ name. is_called name (entity_meaning names e)) (λ name is. called_by owner names name e differ is known) list.items own

pub beside_by : (owner : NameId) (names : List (List ℕ)) (name : Name) (exports : List code.Entity) (e : code.Entity) → AllDiffer names → NameIsOf owner names name → All (EntityIsKnown names) exports → EntityIsKnown names e
    → is_beside name exports e ≡ list_any (is_type_of (entity_meaning names e)) (types_called (name_meaning names name) (entities_meaning names exports))
beside_by owner names name exports e differ own all known =
    any_alike (EntityIsKnown names) (entity_meaning names) (λ (t : code.Entity). is_type_sort t.sort && called name t && is_constructor_in e t)
    (λ (t : Entity). (is_type t.sort && is_called (name_meaning names name) t) && is_type_of (entity_meaning names e) t)
    (λ t has. ap₂ (λ a b. a && b) (ap₂ (λ a b. a && b) (type_by names t.sort) (called_by owner names name t differ own has)) (type_of_by names e t differ known has)) exports all
    ∙ sym (any_filtered (is_type_of (entity_meaning names e)) (λ (t : Entity). is_type t.sort && is_called (name_meaning names name) t) (entities_meaning names exports))

pub lists_by : (owner : NameId) (names : List (List ℕ)) (exports : List code.Entity) (e : code.Entity) (x : entries.Entity) → AllDiffer names → All (EntityIsKnown names) exports → EntityIsKnown names e → EntityIsOf owner names x
    → lists_entity exports e x ≡ names_entity (entities_meaning names exports) (entity_meaning names e) (items.entity_meaning names x)
lists_by owner names exports e (entry.Variable at name) differ all known own = ap₂ (λ a b. a && b) (function_by names e.sort) (called_by owner names name e differ own.1 known)
lists_by owner names exports e (entry.Type at name which) differ all known own =
    ap₂ (λ a b. a || b) (ap₂ (λ a b. a && b) (type_by names e.sort) (called_by owner names name e differ own.1 known))
    (ap₂ (λ a b. a && b) (comes_by owner names which e differ own.2 known) (beside_by owner names name exports e differ own.1 all known))

pub listed_by : (owner : NameId) (names : List (List ℕ)) (exports : List code.Entity) (e : code.Entity) (list : ImportList) → AllDiffer names → All (EntityIsKnown names) exports → EntityIsKnown names e
    → ImportListIsOf owner names list
    → list_any (lists_entity exports e) list.entities.items ≡ list_any (names_entity (entities_meaning names exports) (entity_meaning names e)) (import_list_meaning names list).entities
listed_by owner names exports e list differ all known own =
    any_alike (EntityIsOf owner names) (items.entity_meaning names) (lists_entity exports e) (names_entity (entities_meaning names exports) (entity_meaning names e))
    (λ x is. lists_by owner names exports e x differ all known is) list.entities.items own

-- ---- what a list takes

abbrev pub is_taken : syntax.ImportList → List Entity → Entity → Bool
is_taken list exports e = if list.hides then not (list_any (names_entity exports e) list.entities) else list_any (names_entity exports e) list.entities

pub taken_as : (list : syntax.ImportList) (exports : List Entity) → filter (is_taken list exports) exports ≡ taken (Some list) exports
taken_as list exports = by list.hides
  where
    by : (b : Bool) → filter (λ e. if b then not (list_any (names_entity exports e) list.entities) else list_any (names_entity exports e) list.entities) exports
        ≡ (if b then filter (λ e. not (list_any (names_entity exports e) list.entities)) exports else filter (λ e. list_any (names_entity exports e) list.entities) exports)
    by true = refl
    by false = refl

turned : (hides a b : Bool) → a ≡ b → (if hides then not b else b) ≡ not (if hides then a else not a)
turned true a b same = ap not (sym same)
turned false true b same = sym same
turned false false b same = sym same

pub left_by : (owner : NameId) (names : List (List ℕ)) (exports : List code.Entity) (e : code.Entity) (list : ImportList) (left b : Bool) → AllDiffer names → All (EntityIsKnown names) exports → EntityIsKnown names e
    → ImportListIsOf owner names list → left ≡ is_left list exports e → left ≡ b
    → is_taken (import_list_meaning names list) (entities_meaning names exports) (entity_meaning names e) ≡ not b
left_by owner names exports e list left b differ all known own is settled =
    turned list.hides (list_any (lists_entity exports e) list.entities.items) (list_any (names_entity (entities_meaning names exports) (entity_meaning names e)) (import_list_meaning names list).entities)
    (listed_by owner names exports e list differ all known own)
    ∙ ap not (sym is ∙ settled)

pub all_chosen : (names : List (List ℕ)) (list : syntax.ImportList) (exports : List code.Entity) (exported : List Entity) (i : ℕ) (found : List code.Entity) → length exports ≤ i → AreEntities names exported exports
    → AreEntities names (filter (is_taken list (entities_meaning names exports)) (entities_meaning names (take i exports))) found → AreEntities names (taken (Some list) exported) found
all_chosen names list exports exported i found done are has =
    subst (λ es. AreEntities names es found) (ap (λ es. filter (is_taken list es) exported) are.are ∙ taken_as list exported)
    (all_filtered names (is_taken list (entities_meaning names exports)) exports exported i found done are has)
