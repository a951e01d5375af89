-- The entities that the items of a module declare.
use Rattle.std.proofs.Common.{◌≡◌, ◌∙◌, ℕ, ◌+◌, ◌<◌, ◌≤◌, List, [], ◌∷◌, ◌++◌, map, take, take_all, get_or, length, refl, sym, ap, subst, append_assoc}
use Rattle.std.proofs.lemmas.List.{flat_map_more, map-append, map_more}
use Rattle.std.specs.declared.alloc.AllocError.{AllocError}
use Rattle.std.specs.List.{All, flat_map}
use Rattle.std.specs.Prelude.{OnOk, Result}
use Rattle.cu_names.specs.declared.names.NameId.{NameId}
use Rattle.cu_names.specs.Texts.{IsKnown, text_of}
use Rattle.cu_entities.specs.declared.entities.Entity as code
use Rattle.cu_entities.specs.declared.entities.Sort as sorts
use Rattle.cu_entities.specs.declared.entities.Sort.TheVariants as sort
use Rattle.cu_entities.specs.Entities.{Constructor, DataType, Entity}
use Rattle.cu_entities.specs.EntityMeaning.{SortIsKnown, sort_meaning}
use Rattle.cu_syntax.specs.Answer.{item_meaning, items_meaning, module_meaning}
use Rattle.cu_syntax.specs.declared.items.ConstructorDeclaration.{ConstructorDeclaration}
use Rattle.cu_syntax.specs.declared.text.Item.{Item}
use Rattle.cu_syntax.specs.Items.{constructor_meaning}
use Rattle.cu_syntax.specs.Owners.{ConstructorDeclarationIsOf, ItemIsOf}
use Rattle.cu_syntax.specs.Syntax as syntax
use Rattle.cu_modules.specs.BuiltInEntities.{built_in_entities, entity}
use Rattle.cu_modules.specs.declared.modules.Module.{Module}
use Rattle.cu_modules.specs.Known.{AreEntities}
use Rattle.cu_modules.specs.Ordering.{module_of}
use Rattle.cu_modules.specs.OwnEntities.{constructors_declared, declared_by}
use Rattle.cu_modules.specs.Reading.{HasModule}
use Rattle.cu_modules.specs.Scopes.{own_entities}
use Rattle.cu_modules.proofs.EntityLemmas.{coded, pushed}

-- an entity under a name that the table has
pub added : (names : List (List ℕ)) (before : List Entity) (old new : List code.Entity) (owner id : NameId) (s : sorts.Sort) → new ≡ old ++ coded owner id s ∷ []
    → IsKnown names owner → IsKnown names id → SortIsKnown names s → AreEntities names before old
    → AreEntities names (before ++ entity (text_of names owner) (sort_meaning names s) (text_of names id) ∷ []) new
added names before old new owner id s is known known_id known_sort has =
    pushed names before old new (coded owner id s) (entity (text_of names owner) (sort_meaning names s) (text_of names id)) is refl (record { owner = known; name = known_id; sort = known_sort }) has

pub constructor_more : (names : List (List ℕ)) (before : List Entity) (cs : List ConstructorDeclaration) (i : ℕ) (c : ConstructorDeclaration) (owner t : NameId) (old new : List code.Entity)
    → i < length cs → c ≡ get_or cs i c → IsKnown names owner → IsKnown names t → All (ConstructorDeclarationIsOf owner names) cs → new ≡ old ++ coded owner c.name.text (sort.Constructor t) ∷ []
    → AreEntities names (before ++ constructors_declared (text_of names owner) (text_of names t) (map (constructor_meaning names) (take i cs))) old
    → AreEntities names (before ++ constructors_declared (text_of names owner) (text_of names t) (map (constructor_meaning names) (take (i + 1) cs))) new
constructor_more names before cs i c owner t old new within here known known_t owned is has =
    let f : List syntax.ConstructorDeclaration → List Entity = constructors_declared (text_of names owner) (text_of names t) in
    let done = map (constructor_meaning names) (take i cs) in
    let e = entity (text_of names owner) (Constructor (text_of names t)) (text_of names c.name.text) in
    let own : ConstructorDeclarationIsOf owner names c = subst (λ (c : ConstructorDeclaration). ConstructorDeclarationIsOf owner names c) (sym here) (owned i c within) in
    let more : map (constructor_meaning names) (take (i + 1) cs) ≡ done ++ constructor_meaning names c ∷ [] =
    map_more (constructor_meaning names) cs i c within ∙ ap (λ (c : ConstructorDeclaration). done ++ constructor_meaning names c ∷ []) (sym here) in
    let whole : (before ++ f done) ++ e ∷ [] ≡ before ++ f (map (constructor_meaning names) (take (i + 1) cs)) =
    append_assoc before (f done) (e ∷ [])
    ∙ ap (λ es. before ++ es) (sym (map-append (λ (c : syntax.ConstructorDeclaration). entity (text_of names owner) (Constructor (text_of names t)) c.name.text) done (constructor_meaning names c ∷ [])) ∙ ap f (sym more)) in
    subst (λ es. AreEntities names es new) whole (added names (before ++ f done) old new owner c.name.text (sort.Constructor t) is known own.1.text known_t has)

pub item_more : (names : List (List ℕ)) (m : Module) (items : List Item) (i : ℕ) (item : Item) (old new : List code.Entity) → i < length items → item ≡ get_or items i item → HasModule names m
    → All (ItemIsOf m.name names) items
    → ((before : List Entity) → IsKnown names m.name → ItemIsOf m.name names item → AreEntities names before old → AreEntities names (before ++ declared_by (text_of names m.name) (item_meaning names item)) new)
    → AreEntities names (built_in_entities (text_of names m.name) ++ flat_map (declared_by (text_of names m.name)) (items_meaning names (take i items))) old
    → AreEntities names (built_in_entities (text_of names m.name) ++ flat_map (declared_by (text_of names m.name)) (items_meaning names (take (i + 1) items))) new
item_more names m items i item old new within here has_module owned adds has =
    let o = text_of names m.name in
    let own : ItemIsOf m.name names item = subst (λ (item : Item). ItemIsOf m.name names item) (sym here) (owned i item within) in
    let done = items_meaning names (take i items) in
    let more : items_meaning names (take (i + 1) items) ≡ done ++ item_meaning names item ∷ [] =
    map_more (item_meaning names) items i item within ∙ ap (λ (item : Item). done ++ item_meaning names item ∷ []) (sym here) in
    subst (λ es. AreEntities names es new)
    (flat_map_more (declared_by o) (built_in_entities o) done (item_meaning names item) ∙ ap (λ items. built_in_entities o ++ flat_map (declared_by o) items) (sym more))
    (adds (built_in_entities o ++ flat_map (declared_by o) done) has_module.known own has)

pub all_declared : (names : List (List ℕ)) (m : Module) (items : List Item) (i : ℕ) (found : List code.Entity) → length items ≤ i → items_meaning names items ≡ (module_meaning names m.syntax).items
    → AreEntities names (built_in_entities (text_of names m.name) ++ flat_map (declared_by (text_of names m.name)) (items_meaning names (take i items))) found
    → AreEntities names (own_entities (module_of names m)) found
all_declared names m items i found done are has =
    let o = text_of names m.name in
    subst (λ items. AreEntities names (built_in_entities o ++ flat_map (declared_by o) items) found) (ap (items_meaning names) (take_all i items done) ∙ are) has

-- ---- what one item declares

pub one_declared : (names : List (List ℕ)) (before declared : List Entity) (owner id : NameId) (s : sorts.Sort) (old new : List code.Entity)
    → declared ≡ entity (text_of names owner) (sort_meaning names s) (text_of names id) ∷ [] → new ≡ old ++ coded owner id s ∷ [] → IsKnown names owner → IsKnown names id → SortIsKnown names s
    → AreEntities names before old → AreEntities names (before ++ declared) new
one_declared names before declared owner id s old new are is known known_id known_sort has =
    subst (λ es. AreEntities names (before ++ es) new) (sym are) (added names before old new owner id s is known known_id known_sort has)

pub data_declared : (names : List (List ℕ)) (before declared : List Entity) (owner id : NameId) (cs slice : List ConstructorDeclaration) (result : Result (Unit {0}) AllocError) (old middle new : List code.Entity)
    → declared ≡ entity (text_of names owner) DataType (text_of names id) ∷ constructors_declared (text_of names owner) (text_of names id) (map (constructor_meaning names) cs)
    → slice ≡ cs → middle ≡ old ++ coded owner id sort.DataType ∷ [] → IsKnown names owner → IsKnown names id → All (ConstructorDeclarationIsOf owner names) cs → AreEntities names before old
    → ((before : List Entity) → All (ConstructorDeclarationIsOf owner names) slice → AreEntities names before middle
    → OnOk result (AreEntities names (before ++ constructors_declared (text_of names owner) (text_of names id) (map (constructor_meaning names) slice)) new))
    → OnOk result (AreEntities names (before ++ declared) new)
data_declared names before declared owner id cs slice result old middle new are same is known known_id owned has adds =
    let f : List ConstructorDeclaration → List Entity = λ cs. constructors_declared (text_of names owner) (text_of names id) (map (constructor_meaning names) cs) in
    let e = entity (text_of names owner) DataType (text_of names id) in
    subst (λ (es : List Entity). OnOk result (AreEntities names es new)) (append_assoc before (e ∷ []) (f slice) ∙ ap (λ cs. before ++ e ∷ f cs) same ∙ ap (λ es. before ++ es) (sym are))
    (adds (before ++ e ∷ []) (subst (All (ConstructorDeclarationIsOf owner names)) (sym same) owned) (added names before old middle owner id sort.DataType is known known_id tt has))
