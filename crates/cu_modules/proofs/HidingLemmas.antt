-- Imported entities that a module's own ones hide, and filters of lists of entities.
use Rattle.std.proofs.Common.{◌≡◌, ◌∙◌, ◌&&◌, ◌||◌, not, ℕ, ◌+◌, ◌<◌, ◌≤◌, Bool, true, false, List, [], ◌∷◌, ◌++◌, Option, None, Some, map, take, take_all, get_or, length, refl, sym, ap, ap₂, subst, append-nil, if◌then◌else◌, is_some}
use Rattle.std.proofs.lemmas.Bool.Decides.{same_from_decides}
use Rattle.std.proofs.lemmas.List.{map_more}
use Rattle.std.proofs.lemmas.List.Elements.{filter-append}
use Rattle.std.proofs.lemmas.Slice.Eq.{bytes_eq-Decides}
use Rattle.std.specs.List.{filter, list_any}
use Rattle.std.specs.Option.{option_map}
use Rattle.std.specs.Str.{bytes_eq}
use Rattle.cu_entities.specs.Bindings.{Binding, counted, entities_of, is_bound}
use Rattle.cu_entities.specs.declared.entities.Entity as code
use Rattle.cu_entities.specs.declared.entities.Sort as sorts
use Rattle.cu_entities.specs.declared.entities.Sort.TheVariants as sort
use Rattle.cu_entities.specs.declared.name_table.Key.{Key}
use Rattle.cu_entities.specs.declared.name_table.Meant.{Meant}
use Rattle.cu_entities.specs.Entities.{Entity, Space, Types, Values, distinct, same_entity, same_space, space_of}
use Rattle.cu_entities.specs.EntityMeaning.{EntityIsKnown, entities_meaning, entity_meaning, sort_in, sort_meaning, space_meaning}
use Rattle.cu_entities.specs.NameTables.{count_meaning, key_of, meant_at}
use Rattle.cu_modules.specs.Known.{AreEntities}
use Rattle.cu_modules.specs.Scopes.{binding, is_hidden}
use Rattle.cu_modules.proofs.EntityLemmas.{pushed}

-- ---- filters

pub passed_over : (names : List (List ℕ)) (test : Entity → Bool) (es : List code.Entity) (i : ℕ) (d : code.Entity) (old : List code.Entity) → i < length es → test (entity_meaning names (get_or es i d)) ≡ false
    → AreEntities names (filter test (entities_meaning names (take i es))) old → AreEntities names (filter test (entities_meaning names (take (i + 1) es))) old
passed_over names test es i d old within fails has =
    let done = entities_meaning names (take i es) in
    let e = entity_meaning names (get_or es i d) in
    subst (λ es. AreEntities names es old)
    (sym (ap (filter test) (map_more (entity_meaning names) es i d within) ∙ filter-append test done (e ∷ []) ∙ ap (λ b. filter test done ++ (if b then e ∷ [] else [])) fails ∙ append-nil (filter test done))) has

pub kept : (names : List (List ℕ)) (test : Entity → Bool) (es : List code.Entity) (i : ℕ) (d : code.Entity) (old new : List code.Entity) → i < length es → test (entity_meaning names (get_or es i d)) ≡ true
    → EntityIsKnown names (get_or es i d) → new ≡ old ++ get_or es i d ∷ []
    → AreEntities names (filter test (entities_meaning names (take i es))) old → AreEntities names (filter test (entities_meaning names (take (i + 1) es))) new
kept names test es i d old new within passes known is has =
    let done = entities_meaning names (take i es) in
    let e = entity_meaning names (get_or es i d) in
    subst (λ es. AreEntities names es new)
    (sym (ap (filter test) (map_more (entity_meaning names) es i d within) ∙ filter-append test done (e ∷ []) ∙ ap (λ b. filter test done ++ (if b then e ∷ [] else [])) passes))
    (pushed names (filter test done) old new (get_or es i d) e is refl known has)

pub all_filtered : (names : List (List ℕ)) (test : Entity → Bool) (es : List code.Entity) (meant : List Entity) (i : ℕ) (found : List code.Entity) → length es ≤ i → AreEntities names meant es
    → AreEntities names (filter test (entities_meaning names (take i es))) found → AreEntities names (filter test meant) found
all_filtered names test es meant i found done are has = subst (λ es. AreEntities names (filter test es) found) (ap (entities_meaning names) (take_all i es done) ∙ are.are) has

-- ---- what is bound without a qualifier

bytes_turned : (x y : List ℕ) → bytes_eq x y ≡ bytes_eq y x
bytes_turned x y =
    let one = bytes_eq-Decides x y in
    let two = bytes_eq-Decides y x in
    same_from_decides (bytes_eq x y) (bytes_eq y x) one ((λ e. sym (two.0 e)), (λ e. two.1 (sym e)))

sort_space : (names : List (List ℕ)) (s : sorts.Sort) → space_meaning (sort_in s) ≡ space_of (sort_meaning names s)
sort_space names sort.Function = refl
sort_space names (sort.SetFunction n) = refl
sort_space names (sort.Constructor t) = refl
sort_space names sort.DataType = refl
sort_space names sort.Synonym = refl

space_turned : (s t : Space) → same_space s t ≡ same_space t s
space_turned Types Types = refl
space_turned Types Values = refl
space_turned Values Types = refl
space_turned Values Values = refl

one_counted : (e : Entity) (es : List Entity) → is_some (counted (e ∷ es)) ≡ true
one_counted e [] = refl
one_counted e (f ∷ es) = refl

any_counted : (test : Binding → Bool) (bs : List Binding) → is_some (counted (distinct (entities_of (filter test bs)))) ≡ list_any test bs
any_counted test [] = refl
any_counted test (b ∷ bs) = by (test b) (any_counted test bs)
  where
    by : (h : Bool) → is_some (counted (distinct (entities_of (filter test bs)))) ≡ list_any test bs → is_some (counted (distinct (entities_of (if h then b ∷ filter test bs else filter test bs)))) ≡ (h || list_any test bs)
    by true later = one_counted b.entity (filter (λ f. not (same_entity b.entity f)) (distinct (entities_of (filter test bs))))
    by false later = later

any_bound : (space : Space) (base : List ℕ) (mine : List Entity) (e : Entity) → base ≡ e.name → space ≡ space_of e.sort → list_any (is_bound space None base) (map (binding None) mine) ≡ is_hidden mine e
any_bound space base [] e named in_space = refl
any_bound space base (o ∷ mine) e named in_space =
    ap₂ (λ here later. here || later)
    (ap₂ (λ a b. a && b) (ap (λ t. bytes_eq t o.name) named ∙ bytes_turned e.name o.name) (ap (λ s. same_space s (space_of o.sort)) in_space ∙ space_turned (space_of e.sort) (space_of o.sort)))
    (any_bound space base mine e named in_space)

told_some : (names : List (List ℕ)) (found : Option Meant) → is_some found ≡ is_some (option_map (count_meaning names) found)
told_some names None = refl
told_some names (Some m) = refl

pub hidden : (names : List (List ℕ)) (mine : List Entity) (e : code.Entity) (key : Key) (found : Option Meant) (result : Bool) → key ≡ key_of None e → result ≡ is_some found
    → option_map (count_meaning names) found ≡ meant_at names (map (binding None) mine) key → result ≡ is_hidden mine (entity_meaning names e)
hidden names mine e key found result is told tells =
    told ∙ told_some names found ∙ ap is_some (tells ∙ ap (meant_at names (map (binding None) mine)) is)
    ∙ any_counted (is_bound (space_meaning (sort_in e.sort)) None (entity_meaning names e).name) (map (binding None) mine)
    ∙ any_bound (space_meaning (sort_in e.sort)) (entity_meaning names e).name mine (entity_meaning names e) refl (sort_space names e.sort)
