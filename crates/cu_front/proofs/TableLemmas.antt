-- Tables that have the names of modules and goals.
use Rattle.std.proofs.Common.{◌≡◌, ◌∙◌, ◌+◌, ◌<◌, ◌++◌, lt_of_not-le, ℕ, Bool, List, [], ◌∷◌, Some, cond, get_or, length, map, not, nat_eq, refl, slice_get, sym, ap, ap₂, subst}
use Rattle.std.proofs.lemmas.List.{get_or-map, get_or_past}
use Rattle.std.proofs.lemmas.List.Elements.{All-append, All-head, All-map, All-tail, All-weaker, Contains-get_or}
use Rattle.std.specs.List.{All, Contains, position_or_len}
use Rattle.cu_names.proofs.TextLemmas.{contained_at}
use Rattle.cu_names.specs.declared.names.NameId.{NameId}
use Rattle.cu_names.specs.Texts.{AllDiffer, IsKnown, text_of}
use Rattle.cu_syntax.specs.declared.name.Name as code
use Rattle.cu_syntax.specs.Names.{name_meaning}
use Rattle.cu_syntax.specs.Owners.{NameIsOf}
use Rattle.cu_syntax.specs.Syntax.{Goal, Name}
use Rattle.cu_modules.specs.declared.modules.Module.{Module}
use Rattle.cu_modules.specs.Ordering.{module_of, modules_of}
use Rattle.cu_modules.specs.Reading.{HasModule}
use Rattle.cu_modules.specs.Scopes.{Named}
use Rattle.cu_modules.specs.Walk.{has_name}
use Rattle.cu_toplevel.specs.declared.entities.Entities.{Entities}
use Rattle.cu_toplevel.specs.declared.listing.Declared as code_declared
use Rattle.cu_toplevel.specs.declared.listing.Listing.{Listing}
use Rattle.cu_toplevel.specs.EntityTables.{AreEntities}
use Rattle.cu_toplevel.specs.Listings.{DeclaredIsKnown, IsListing, declared_meaning}
use Rattle.cu_toplevel.proofs.ReadingLemmas.{same_number}
use Rattle.cu_toplevel.proofs.TopLemmas.{id_is}
use Rattle.cu_translation.specs.ModuleNames.{id_of, module_at, no_module}
use Rattle.cu_translation.specs.Numbered.{Declared, all_constructors, all_functions, all_synonyms, all_types}
use Rattle.cu_translation.specs.Functions.{goal_name}
use Rattle.cu_uses.specs.Binders.{texts}
use Rattle.cu_front.specs.Names.{IsGoalTable, IsTable, declared_names}

known_text : (names : List (List ℕ)) (id : NameId) → IsKnown names id → Contains names (text_of names id)
known_text names id known = Contains-get_or names id.0 [] known

-- ---- modules

module_names : (names : List (List ℕ)) (ms : List Module) → All (HasModule names) ms
    → All (Contains names) (map (λ (m : Named). m.name) (modules_of names ms))
module_names names ms have =
    All-map (Contains names) (λ (m : Named). m.name) (modules_of names ms)
    (All-map (λ (m : Named). Contains names m.name) (module_of names) ms
    (All-weaker (HasModule names) (λ (m : Module). Contains names (text_of names m.name))
    (λ m has. known_text names m.name has.known) ms have))

listed_names : (names : List (List ℕ)) (listed : List Declared) (l : Listing) → IsListing names listed l
    → All (Contains names) (declared_names listed)
listed_names names listed l is =
    subst (λ (ds : List Declared). All (Contains names) (declared_names ds)) is.are
    (All-map (Contains names) (λ (d : Declared). d.name) (map (declared_meaning names) l.list.items)
    (All-map (λ (d : Declared). Contains names d.name) (declared_meaning names) l.list.items
    (All-weaker (DeclaredIsKnown names) (λ (d : code_declared.Declared). Contains names (text_of names d.name))
    (λ d known. known_text names d.name known.name) l.list.items is.known)))

pub table_of : (names : List (List ℕ)) (ms : List Module) (e : Entities) → All (HasModule names) ms
    → AreEntities names (modules_of names ms) e → IsTable (modules_of names ms) names
table_of names ms e have are =
    let modules = modules_of names ms in
    let P = Contains names in
    let types = declared_names (all_types modules) in
    let constructors = declared_names (all_constructors modules) in
    let functions = declared_names (all_functions modules) in
    let synonyms = declared_names (all_synonyms modules) in
    record {
      differ = are.differ;
      has = All-append P (map (λ (m : Named). m.name) modules) (types ++ (constructors ++ (functions ++ synonyms))) (module_names names ms have)
          (All-append P types (constructors ++ (functions ++ synonyms)) (listed_names names (all_types modules) e.declarations.types are.declared.types)
          (All-append P constructors (functions ++ synonyms)
          (listed_names names (all_constructors modules) e.declarations.constructors are.declared.constructors)
          (All-append P functions synonyms (listed_names names (all_functions modules) e.declarations.functions are.declared.functions)
          (listed_names names (all_synonyms modules) e.declarations.synonyms are.declared.synonyms))));
    }

-- ---- goals

pub variable_names : (owner : NameId) (names : List (List ℕ)) (found : List code.Name) (free : List Name) → map (name_meaning names) found ≡ free
    → All (NameIsOf owner names) found → All (Contains names) (texts free)
variable_names owner names found free is owned =
    subst (λ (xs : List Name). All (Contains names) (texts xs)) is
    (All-map (Contains names) (λ (x : Name). x.text) (map (name_meaning names) found)
    (All-map (λ (x : Name). Contains names x.text) (name_meaning names) found
    (All-weaker (NameIsOf owner names) (λ (x : code.Name). Contains names (text_of names x.text))
    (λ x known. known_text names x.text known.text) found owned)))

pub goal_table : (names : List (List ℕ)) (modules : List Named) (goal : Goal) → IsTable modules names
    → slice_get names (id_of names goal_name).0 ≡ Some goal_name → All (Contains names) (texts goal.free) → IsGoalTable modules goal names
goal_table names modules goal is named variables = record {
  of_modules = is;
  name = contained_at names goal_name (id_of names goal_name).0 named;
  variables = variables;
}

not_empty : [] ≡ goal_name → ⊥
not_empty e = let no : ⊥ = cc in no

-- a table has what stands for the name of goals
pub known_goal_name : (names : List (List ℕ)) (id : NameId) → text_of names id ≡ goal_name → IsKnown names id
known_goal_name names id is = lt_of_not-le (λ past. not_empty (sym (get_or_past names id.0 [] past) ∙ is))

-- a name that was found under a number is found under that of its text
pub named_at : (names : List (List ℕ)) (id : NameId) (text : List ℕ) → AllDiffer names → slice_get names id.0 ≡ Some text
    → slice_get names (id_of names text).0 ≡ Some text
named_at names id text differ at = ap (λ (i : NameId). slice_get names i.0) (id_is names id text differ at) ∙ at

-- ---- the root

abbrev pub called : NameId → Module → Bool
called id m = nat_eq m.name.0 id.0

pub same_places : (names : List (List ℕ)) (root : List ℕ) (id : NameId) → AllDiffer names → id_of names root ≡ id → (ms : List Module)
    → All (HasModule names) ms → position_or_len (called id) ms ≡ position_or_len (has_name root) (modules_of names ms)
same_places names root id differ is [] have = refl
same_places names root id differ is (m ∷ ms) have =
    let known = (All-head (HasModule names) m ms have).known in
    let same : called id m ≡ has_name root (module_of names m) =
    ap (λ (i : NameId). nat_eq m.name.0 i.0) (sym is) ∙ same_number names m.name root differ known in
    ap₂ (λ (b : Bool) (n : ℕ). cond (not b) (1 + n) 0) same
    (same_places names root id differ is ms (All-tail (HasModule names) m ms have))

-- ---- modules by their numbers

pub module_at_is : (names : List (List ℕ)) (modules : List Module) (k : ℕ) (m : Module) → k < length modules → m ≡ get_or modules k m
    → module_at (modules_of names modules) k ≡ module_of names m
module_at_is names modules k m below is = get_or-map (module_of names) modules k m no_module below ∙ ap (module_of names) (sym is)

pub module_has : (names : List (List ℕ)) (modules : List Module) (k : ℕ) (m : Module) → k < length modules → m ≡ get_or modules k m
    → All (HasModule names) modules → HasModule names m
module_has names modules k m below is have = subst (HasModule names) (sym is) (have k m below)
