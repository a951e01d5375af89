-- What names of top level refer to, and the numbers of names.
use Rattle.std.proofs.Common.{◌≡◌, ◌∙◌, ◌↔◌, ◌<◌, ℕ, Bool, true, false, List, [], ◌∷◌, Option, None, Some, refl, sym, ap, arith, get_or, length}
use Rattle.std.proofs.lemmas.List.{get_or-map, get_or_default}
use Rattle.std.proofs.lemmas.List.Sums.{position_or_len_is}
use Rattle.std.proofs.lemmas.Option.{get_or_from_slice_get, slice_get-get_or, slice_get_within}
use Rattle.std.proofs.lemmas.Slice.Eq.{bytes_eq-Decides}
use Rattle.std.specs.List.{Contains}
use Rattle.std.specs.Option.{option_map}
use Rattle.std.specs.Prelude.{slice_get}
use Rattle.std.specs.Str.{bytes_eq}
use Rattle.cu_entities.specs.declared.entities.Entity as code
use Rattle.cu_entities.specs.Entities.{Entity, Space}
use Rattle.cu_entities.specs.EntityMeaning.{entity_meaning}
use Rattle.cu_modules.specs.BuiltInEntities.{prelude_name}
use Rattle.cu_modules.specs.declared.modules.Module.{Module}
use Rattle.cu_modules.specs.Means.{Means, interfaces_before}
use Rattle.cu_modules.specs.Ordering.{module_of, modules_of}
use Rattle.cu_modules.specs.Scopes.{Named, meant, scope}
use Rattle.cu_names.specs.declared.names.NameId.{NameId}
use Rattle.cu_names.specs.Texts.{AllDiffer, IsKnown, text_of}
use Rattle.cu_syntax.specs.Syntax.{Name}
use Rattle.cu_toplevel.specs.declared.entities.Entities.{Entities}
use Rattle.cu_toplevel.specs.EntityTables.{AreEntities}
use Rattle.cu_translation.specs.Around.{Names, Nothing}
use Rattle.cu_translation.specs.ModuleNames.{alone, constructor_referent, entity_meant, function_referent, id_of, module_at, no_module, of_entity, set_referent, synonym_named, type_named, type_of, value_of}
use Rattle.cu_translation.specs.Numbered.{all_constructors, all_functions, all_synonyms, all_types, numbered, set_arity}
use Rattle.cu_toplevel.proofs.EntityLemmas.{not_declared}
use Rattle.cu_toplevel.proofs.NameLemmas.{stands}

-- ---- entities

pub entity_is : (names : List (List ℕ)) (modules : List Named) (number : ℕ) (space : Space) (name : Name) (result : Option code.Entity) → number < length modules
    → ((e : Entity) → (option_map (entity_meaning names) result ≡ Some e) ↔ Means modules number space name e)
    → option_map (entity_meaning names) result ≡ entity_meant modules number space name
entity_is names modules number space name result within means = by (option_map (entity_meaning names) result) refl (all m) refl
  where
    m : Named
    m = module_at modules number

    all : Named → List Entity
    all m = meant (scope (interfaces_before modules number) m) space name

    there : slice_get modules number ≡ Some m
    there = slice_get-get_or modules number no_module within

    by : (o : Option Entity) → option_map (entity_meaning names) result ≡ o → (es : List Entity) → all m ≡ es → o ≡ alone es
    by (Some e) is es at =
        let one : Means modules number space name e = (means e).0 is in
        let e : Some one.m ≡ Some m = sym one.is_there ∙ there in
        let same : one.m ≡ m = cc in
        sym (ap alone (sym at ∙ ap all (sym same) ∙ one.is_alone))
    by None is [] at = refl
    by None is (e ∷ []) at =
        let other : option_map (entity_meaning names) result ≡ Some e = (means e).1 (record { m = m; is_there = there; is_alone = at }) in
        let no : ⊥ = cc in absurd no
    by None is (e ∷ f ∷ es) at = refl

pub found_is : {A : Type 0} (names : List (List ℕ)) (means : List ℕ → List ℕ → A) (otherwise : A) (result : Option code.Entity) (e : code.Entity) (o : Option Entity) (a : A)
    → result ≡ Some e → option_map (entity_meaning names) result ≡ o → a ≡ means (text_of names e.owner) (text_of names e.name) → a ≡ of_entity means otherwise o
found_is names means otherwise result e o a some is gives = gives ∙ ap (of_entity means otherwise) (sym (ap (option_map (entity_meaning names)) some) ∙ is)

pub none_is : {A : Type 0} (names : List (List ℕ)) (means : List ℕ → List ℕ → A) (otherwise : A) (result : Option code.Entity) (o : Option Entity)
    → result ≡ None → option_map (entity_meaning names) result ≡ o → otherwise ≡ of_entity means otherwise o
none_is names means otherwise result o none is = ap (of_entity means otherwise) (sym (ap (option_map (entity_meaning names)) none) ∙ is)

-- ---- what the Prelude has

pub no_value : (names : List (List ℕ)) (modules : List Named) (e : Entities) (text : List ℕ) → ¬ (Contains names text) → AreEntities names modules e → Nothing ≡ value_of modules prelude_name text
no_value names modules e text absent has =
    let other = set_referent (set_arity prelude_name text) in
    sym (ap (λ c. constructor_referent c (function_referent (numbered prelude_name text (all_functions modules)) other))
    (not_declared names text prelude_name (all_constructors modules) e.declarations.constructors absent has.declared.constructors)
    ∙ ap (λ f. function_referent f other) (not_declared names text prelude_name (all_functions modules) e.declarations.functions absent has.declared.functions))

pub no_type : (names : List (List ℕ)) (modules : List Named) (e : Entities) (text : List ℕ) → ¬ (Contains names text) → AreEntities names modules e → synonym_named None ≡ type_of modules prelude_name text
no_type names modules e text absent has =
    sym (ap (λ t. type_named t (synonym_named (numbered prelude_name text (all_synonyms modules))))
    (not_declared names text prelude_name (all_types modules) e.declarations.types absent has.declared.types)
    ∙ ap synonym_named (not_declared names text prelude_name (all_synonyms modules) e.declarations.synonyms absent has.declared.synonyms))

pub of_prelude : {A : Type 0} (names : List (List ℕ)) (modules : List Named) (e : Entities) (id : NameId) (text : List ℕ) (means : List ℕ → List ℕ → A) (a : A)
    → AreEntities names modules e → slice_get names id.0 ≡ Some text
    → (IsKnown names e.prelude → IsKnown names id → a ≡ means (text_of names e.prelude) (text_of names id)) → a ≡ means prelude_name text
of_prelude names modules e id text means a has at gives =
    gives has.prelude.known (slice_get_within names id.0 text at)
    ∙ ap (λ o. means o (text_of names id)) has.prelude.is ∙ ap (means prelude_name) (get_or_from_slice_get names id.0 text [] at)

-- ---- the numbers of names

pub id_is : (names : List (List ℕ)) (id : NameId) (text : List ℕ) → AllDiffer names → slice_get names id.0 ≡ Some text → id_of names text ≡ id
id_is names id text differ at =
    ap (λ (n : ℕ). record { 0 = n }) (position_or_len_is (bytes_eq text) names id.0 [] (omega (arith, within)) before (λ _. (bytes_eq-Decides text (get_or names id.0 [])).1 (sym (get_or_from_slice_get names id.0 text [] at))))
  where
    within : id.0 < length names
    within = slice_get_within names id.0 text at

    before_by : (k : ℕ) → k < id.0 → (h : Bool) → bytes_eq text (get_or names k []) ≡ h → h ≡ false
    before_by k earlier false is = refl
    before_by k earlier true is =
        let same : text ≡ get_or names k [] = (bytes_eq-Decides text (get_or names k [])).0 is in
        let there : slice_get names k ≡ Some text = slice_get-get_or names k [] (omega (arith, within, earlier)) ∙ ap Some (sym same) in
        let one : k ≡ id.0 = differ k id.0 text there at in
        let no : ⊥ = omega (arith, one, earlier) in absurd no

    before : (k : ℕ) → k < id.0 → bytes_eq text (get_or names k []) ≡ false
    before k earlier = before_by k earlier (bytes_eq text (get_or names k [])) refl

pub no_id : (names : List (List ℕ)) (text : List ℕ) → ¬ (Contains names text) → id_of names text ≡ record { 0 = length names }
no_id names text absent =
    ap (λ (n : ℕ). record { 0 = n }) (position_or_len_is (bytes_eq text) names (length names) [] (omega arith) before (λ past. let no : ⊥ = omega (arith, past) in absurd no))
  where
    before_by : (k : ℕ) → k < length names → (h : Bool) → bytes_eq text (get_or names k []) ≡ h → h ≡ false
    before_by k within false is = refl
    before_by k within true is =
        let same : text ≡ get_or names k [] = (bytes_eq-Decides text (get_or names k [])).0 is in
        absurd (absent (k, within, get_or_default names k text [] within ∙ sym same))

    before : (k : ℕ) → k < length names → bytes_eq text (get_or names k []) ≡ false
    before k within = before_by k within (bytes_eq text (get_or names k [])) refl

pub owner_is : (names : List (List ℕ)) (modules : List Module) (number : ℕ) (d : Module) (owner : NameId) → AllDiffer names → number < length modules → owner ≡ (get_or modules number d).name
    → IsKnown names owner → id_of names (module_at (modules_of names modules) number).name ≡ owner
owner_is names modules number d owner differ within is known =
    ap (λ (m : Named). id_of names m.name) (get_or-map (module_of names) modules number d no_module within ∙ refl)
    ∙ ap (λ (id : NameId). id_of names (text_of names id)) (sym is)
    ∙ id_is names owner (text_of names owner) differ (stands names owner known)

pub owned_as : (n : Names) (p q : NameId) → p ≡ q → record n { owner = p } ≡ record n { owner = q }
owned_as n p q is = λ j. record { value = n.value; fixity = n.fixity; type = n.type; prelude = n.prelude; prelude_type = n.prelude_type; owner = is j }

pub owned_by : (n : Names) (q : NameId) → n.owner ≡ q → n ≡ record n { owner = q }
owned_by n q is = λ j. record { value = n.value; fixity = n.fixity; type = n.type; prelude = n.prelude; prelude_type = n.prelude_type; owner = is j }
