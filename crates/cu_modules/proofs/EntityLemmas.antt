-- Lists of entities, with more entities at the end.
use Rattle.std.proofs.Common.{◌≡◌, ◌∙◌, ℕ, ◌+◌, ◌<◌, Bor, List, [], ◌∷◌, ◌++◌, Some, map, take, get_or, length, refl, sym, ap, subst, append_assoc, arith, if◌then◌else◌, Bool, true, false}
use Rattle.std.proofs.lemmas.List.{get_or-map, length-map, length-take-le, map-append, map_more}
use Rattle.std.proofs.lemmas.List.Concat.{flat_map-append}
use Rattle.std.proofs.lemmas.List.Elements.{All-nil, All-push}
use Rattle.std.specs.List.{All, Contains, flat_map}
use Rattle.std.proofs.lemmas.Slice.Eq.{bytes_eq-Decides}
use Rattle.std.specs.declared.alloc.AllocError.{AllocError}
use Rattle.std.specs.Prelude.{OnOk, Result, slice_get}
use Rattle.std.specs.Str.{bytes_eq}
use Rattle.cu_names.proofs.Growth.{known_at, text_of-at}
use Rattle.cu_names.specs.declared.names.NameId.{NameId}
use Rattle.cu_names.specs.Texts.{IsKnown, text_of}
use Rattle.cu_entities.specs.declared.entities.Entity as code
use Rattle.cu_entities.specs.declared.entities.Sort as sorts
use Rattle.cu_entities.specs.declared.entities.Sort.TheVariants as sort
use Rattle.cu_entities.specs.Entities.{Constructor, DataType, Entity, Function, SetFunction, Sort}
use Rattle.cu_entities.specs.EntityMeaning.{EntityIsKnown, SortIsKnown, entities_meaning, entity_meaning, sort_meaning}
use Rattle.cu_modules.specs.BuiltInEntities.{built_in_entities, cons, entity, external_names, first_types, list_type, literal_names, prelude_name, set_function_names, set_functions, set_functions_name, single_names, single_type}
use Rattle.cu_modules.specs.Known.{AreEntities, listed_texts}

abbrev pub coded : NameId → NameId → sorts.Sort → code.Entity
coded owner id s = record { owner = owner; name = id; sort = s }

-- ---- one more

pub pushed : (names : List (List ℕ)) (before : List Entity) (old new : List code.Entity) (e : code.Entity) (f : Entity) → new ≡ old ++ e ∷ [] → entity_meaning names e ≡ f
    → EntityIsKnown names e → AreEntities names before old → AreEntities names (before ++ f ∷ []) new
pushed names before old new e f is means known has = record {
  are = ap (entities_meaning names) is ∙ map-append (entity_meaning names) old (e ∷ []) ∙ (λ j. has.are j ++ means j ∷ []);
  known = subst (All (EntityIsKnown names)) (sym is) (All-push (EntityIsKnown names) old e has.known known);
}

-- an entity under a name that the table has
pub named : (names : List (List ℕ)) (owner id : NameId) (s : sorts.Sort) (text : List ℕ) → slice_get names id.0 ≡ Some text
    → entity_meaning names (coded owner id s) ≡ entity (text_of names owner) (sort_meaning names s) text
named names owner id s text at = ap (entity (text_of names owner) (sort_meaning names s)) (text_of-at names id text at)

pub named_known : (names : List (List ℕ)) (owner id : NameId) (s : sorts.Sort) (text : List ℕ) → IsKnown names owner → slice_get names id.0 ≡ Some text → SortIsKnown names s
    → EntityIsKnown names (coded owner id s)
named_known names owner id s text known at known_sort = record { owner = known; name = known_at names id text at; sort = known_sort }

pub pushed_named : (names : List (List ℕ)) (before : List Entity) (old new : List code.Entity) (owner id : NameId) (s : sorts.Sort) (owned : List ℕ) (kind : Sort) (text : List ℕ)
    → new ≡ old ++ coded owner id s ∷ [] → IsKnown names owner → text_of names owner ≡ owned → slice_get names id.0 ≡ Some text → SortIsKnown names s → sort_meaning names s ≡ kind
    → AreEntities names before old → AreEntities names (before ++ entity owned kind text ∷ []) new
pushed_named names before old new owner id s owned kind text is known of at known_sort means has =
    pushed names before old new (coded owner id s) (entity owned kind text) is (named names owner id s text at ∙ (λ j. entity (of j) (means j) text))
    (named_known names owner id s text known at known_sort) has

-- ---- texts

pub there_at : (names : List (List ℕ)) (texts : List (Bor (List ℕ))) (i : ℕ) (d : Bor (List ℕ)) → i < length texts → All (Contains names) (listed_texts texts)
    → Contains names (get_or texts i d).now
there_at names texts i d within there =
    subst (Contains names) (get_or-map (λ (t : Bor (List ℕ)). t.now) texts i d d.now within) (there i d.now (subst (λ n. i < n) (sym (length-map texts (λ (t : Bor (List ℕ)). t.now))) within))

pub texts_more : (texts : List (Bor (List ℕ))) (i : ℕ) (d : Bor (List ℕ)) → i < length texts
    → listed_texts (take (i + 1) texts) ≡ listed_texts (take i texts) ++ (get_or texts i d).now ∷ []
texts_more texts i d within = map_more (λ (t : Bor (List ℕ)). t.now) texts i d within

-- ---- the steps of loops

pub named_more : (names : List (List ℕ)) (before : List Entity) (texts : List (Bor (List ℕ))) (i : ℕ) (d : Bor (List ℕ)) (owner id : NameId) (s : sorts.Sort) (old new : List code.Entity)
    → i < length texts → IsKnown names owner → SortIsKnown names s → slice_get names id.0 ≡ Some (get_or texts i d).now → new ≡ old ++ coded owner id s ∷ []
    → AreEntities names (before ++ map (entity (text_of names owner) (sort_meaning names s)) (listed_texts (take i texts))) old
    → AreEntities names (before ++ map (entity (text_of names owner) (sort_meaning names s)) (listed_texts (take (i + 1) texts))) new
named_more names before texts i d owner id s old new within known known_sort at is has =
    let f : List ℕ → Entity = entity (text_of names owner) (sort_meaning names s) in
    let done = listed_texts (take i texts) in
    let text = (get_or texts i d).now in
    let whole : (before ++ map f done) ++ f text ∷ [] ≡ before ++ map f (listed_texts (take (i + 1) texts)) =
    append_assoc before (map f done) (f text ∷ []) ∙ ap (λ es. before ++ es) (sym (map-append f done (text ∷ [])) ∙ ap (map f) (sym (texts_more texts i d within))) in
    subst (λ es. AreEntities names es new) whole (pushed_named names (before ++ map f done) old new owner id s (text_of names owner) (sort_meaning names s) text is known refl at known_sort refl has)

pub single_more : (names : List (List ℕ)) (before : List Entity) (texts : List (Bor (List ℕ))) (i : ℕ) (d : Bor (List ℕ)) (owner id : NameId) (old middle new : List code.Entity)
    → i < length texts → IsKnown names owner → text_of names owner ≡ prelude_name → slice_get names id.0 ≡ Some (get_or texts i d).now
    → middle ≡ old ++ coded owner id sort.DataType ∷ [] → new ≡ middle ++ coded owner id (sort.Constructor id) ∷ []
    → AreEntities names (before ++ flat_map single_type (listed_texts (take i texts))) old
    → AreEntities names (before ++ flat_map single_type (listed_texts (take (i + 1) texts))) new
single_more names before texts i d owner id old middle new within known of at first second has =
    let done = listed_texts (take i texts) in
    let text = (get_or texts i d).now in
    let types = flat_map single_type done in
    let one = entity prelude_name DataType text in
    let two = entity prelude_name (Constructor text) text in
    let whole : ((before ++ types) ++ one ∷ []) ++ two ∷ [] ≡ before ++ flat_map single_type (listed_texts (take (i + 1) texts)) =
    append_assoc (before ++ types) (one ∷ []) (two ∷ []) ∙ append_assoc before types (one ∷ two ∷ [])
    ∙ ap (λ es. before ++ es) (sym (flat_map-append single_type done (text ∷ [])) ∙ ap (flat_map single_type) (sym (texts_more texts i d within))) in
    subst (λ es. AreEntities names es new) whole
    (pushed_named names ((before ++ types) ++ one ∷ []) middle new owner id (sort.Constructor id) prelude_name (Constructor text) text second known of at (known_at names id text at)
    (ap Constructor (text_of-at names id text at))
    (pushed_named names (before ++ types) old middle owner id sort.DataType prelude_name DataType text first known of at tt refl has))

sets_more : (owner : List ℕ) (n : ℕ) (texts : List (List ℕ)) (text : List ℕ) → set_functions owner n (texts ++ text ∷ []) ≡ set_functions owner n texts ++ entity owner (SetFunction (n + length texts)) text ∷ []
sets_more owner n [] text = ap (λ m. entity owner (SetFunction m) text ∷ []) (omega arith)
sets_more owner n (t ∷ texts) text =
    ap (λ more. entity owner (SetFunction n) t ∷ more) (sets_more owner (n + 1) texts text
    ∙ ap (λ m. set_functions owner (n + 1) texts ++ entity owner (SetFunction m) text ∷ []) (omega arith))

pub set_more : (names : List (List ℕ)) (before : List Entity) (texts : List (Bor (List ℕ))) (i : ℕ) (d : Bor (List ℕ)) (owner id : NameId) (old new : List code.Entity)
    → i < length texts → IsKnown names owner → slice_get names id.0 ≡ Some (get_or texts i d).now → new ≡ old ++ coded owner id (sort.SetFunction i) ∷ []
    → AreEntities names (before ++ set_functions (text_of names owner) 0 (listed_texts (take i texts))) old
    → AreEntities names (before ++ set_functions (text_of names owner) 0 (listed_texts (take (i + 1) texts))) new
set_more names before texts i d owner id old new within known at is has =
    let done = listed_texts (take i texts) in
    let text = (get_or texts i d).now in
    let of = text_of names owner in
    let counted : length done ≡ i = length-map (take i texts) (λ (t : Bor (List ℕ)). t.now) ∙ length-take-le i texts (omega arith) in
    let e = entity of (SetFunction i) text in
    let whole : (before ++ set_functions of 0 done) ++ e ∷ [] ≡ before ++ set_functions of 0 (listed_texts (take (i + 1) texts)) =
    append_assoc before (set_functions of 0 done) (e ∷ []) ∙ ap (λ es. before ++ es) (ap (λ m. set_functions of 0 done ++ entity of (SetFunction m) text ∷ []) (sym counted ∙ omega arith)
    ∙ sym (sets_more of 0 done text) ∙ ap (set_functions of 0) (sym (texts_more texts i d within))) in
    subst (λ es. AreEntities names es new) whole (pushed_named names (before ++ set_functions of 0 done) old new owner id (sort.SetFunction i) of (SetFunction i) text is known refl at tt refl has)

-- lists
pub list_more : (names : List (List ℕ)) (before : List Entity) (owner id : NameId) (e : code.Entity) (a b c d : List code.Entity) → IsKnown names owner → text_of names owner ≡ prelude_name
    → slice_get names id.0 ≡ Some (91 ∷ 93 ∷ []) → AreEntities names (cons ∷ []) (e ∷ [])
    → b ≡ a ++ coded owner id sort.DataType ∷ [] → c ≡ b ++ coded owner id (sort.Constructor id) ∷ [] → d ≡ c ++ e ∷ []
    → AreEntities names before a → AreEntities names (before ++ list_type) d
list_more names before owner id e a b c d known of at is_cons first second third has =
    let text : List ℕ = 91 ∷ 93 ∷ [] in
    let one = entity prelude_name DataType text in
    let two = entity prelude_name (Constructor text) text in
    let has_one = pushed_named names before a b owner id sort.DataType prelude_name DataType text first known of at tt refl has in
    let has_two = pushed_named names (before ++ one ∷ []) b c owner id (sort.Constructor id) prelude_name (Constructor text) text second known of at (known_at names id text at)
    (ap Constructor (text_of-at names id text at)) has_one in
    let has_three = pushed names ((before ++ one ∷ []) ++ two ∷ []) c d e cons third (ap (λ es. get_or es 0 cons) is_cons.are) (is_cons.known 0 e (omega arith)) has_two in
    subst (λ es. AreEntities names es d) (append_assoc (before ++ one ∷ []) (two ∷ []) (cons ∷ []) ∙ append_assoc before (one ∷ []) (two ∷ cons ∷ [])) has_three

pub cons_is : (names : List (List ℕ)) (owner id type : NameId) → slice_get names owner.0 ≡ Some prelude_name → slice_get names id.0 ≡ Some (58 ∷ []) → slice_get names type.0 ≡ Some (91 ∷ 93 ∷ [])
    → AreEntities names (cons ∷ []) (coded owner id (sort.Constructor type) ∷ [])
cons_is names owner id type of at list = record {
  are = λ j. entity (text_of-at names owner prelude_name of j) (Constructor (text_of-at names type (91 ∷ 93 ∷ []) list j)) (text_of-at names id (58 ∷ []) at j) ∷ [];
  known = All-push (EntityIsKnown names) [] (coded owner id (sort.Constructor type)) (All-nil (EntityIsKnown names))
      (record { owner = known_at names owner prelude_name of; name = known_at names id (58 ∷ []) at; sort = known_at names type (91 ∷ 93 ∷ []) list });
}

pub first_joined : (before lists singles literals externals : List Entity) → (((before ++ lists) ++ singles) ++ literals) ++ externals ≡ before ++ (lists ++ singles ++ literals ++ externals)
first_joined before lists singles literals externals =
    ap (λ es. es ++ literals ++ externals) (append_assoc before lists singles) ∙ ap (λ es. es ++ externals) (append_assoc before (lists ++ singles) literals)
    ∙ append_assoc before (lists ++ singles ++ literals) externals

-- what a module has that is built in
pub of_prelude : (names : List (List ℕ)) (owner : NameId) (new : List code.Entity) → text_of names owner ≡ prelude_name → AreEntities names (built_in_entities prelude_name) new
    → AreEntities names (built_in_entities (text_of names owner)) new
of_prelude names owner new is has = subst (λ text. AreEntities names (built_in_entities text) new) (sym is) has

pub of_set_functions : (names : List (List ℕ)) (owner : NameId) (new : List code.Entity) → text_of names owner ≡ set_functions_name
    → AreEntities names (set_functions (text_of names owner) 0 set_function_names) new → AreEntities names (built_in_entities (text_of names owner)) new
of_set_functions names owner new is has =
    subst (λ text. AreEntities names (built_in_entities text) new) (sym is) (subst (λ text. AreEntities names (set_functions text 0 set_function_names) new) is has)

pub of_another : (names : List (List ℕ)) (owner : NameId) (new : List code.Entity) → bytes_eq (text_of names owner) prelude_name ≡ false → bytes_eq (text_of names owner) set_functions_name ≡ false
    → new ≡ [] → AreEntities names (built_in_entities (text_of names owner)) new
of_another names owner new not_prelude not_sets none =
    subst (λ (es : List code.Entity). AreEntities names (built_in_entities (text_of names owner)) es) (sym none)
    (subst (λ b. AreEntities names (if b then first_types ++ map (entity (text_of names owner) Function) external_names else if bytes_eq (text_of names owner) set_functions_name then set_functions (text_of names owner) 0 set_function_names else []) []) (sym not_prelude)
    (subst (λ b. AreEntities names (if b then set_functions (text_of names owner) 0 set_function_names else []) []) (sym not_sets) (record { are = refl; known = All-nil (EntityIsKnown names) })))

pub none_yet : (names : List (List ℕ)) (new : List code.Entity) → new ≡ [] → AreEntities names [] new
none_yet names new none = subst (λ (es : List code.Entity). AreEntities names [] es) (sym none) (record { are = refl; known = All-nil (EntityIsKnown names) })

-- the entities that the Prelude has without a declaration, one group after another
pub first_added : (names : List (List ℕ)) (before : List Entity) (owner : NameId) (result : Result (Unit {0}) AllocError) (a b : List code.Entity) → text_of names owner ≡ prelude_name
    → AreEntities names (((before ++ list_type) ++ flat_map single_type single_names) ++ map (entity (text_of names owner) DataType) literal_names) a
    → ((all : List Entity) → AreEntities names all a → OnOk result (AreEntities names (all ++ map (entity (text_of names owner) Function) external_names) b))
    → OnOk result (AreEntities names (before ++ built_in_entities prelude_name) b)
first_added names before owner result a b of has last =
    let singles = flat_map single_type single_names in
    let whole : (text : List ℕ) → List Entity = λ text. (((before ++ list_type) ++ singles) ++ map (entity text DataType) literal_names) ++ map (entity text Function) external_names in
    subst (λ (es : List Entity). OnOk result (AreEntities names es b))
    (ap whole of ∙ first_joined before list_type singles (map (entity prelude_name DataType) literal_names) (map (entity prelude_name Function) external_names))
    (last (((before ++ list_type) ++ singles) ++ map (entity (text_of names owner) DataType) literal_names) has)

-- a name whose text is looked at

pub text_is : (names : List (List ℕ)) (owner : NameId) (text other : List ℕ) (b : Bool) → slice_get names owner.0 ≡ Some text → b ≡ bytes_eq text other → b ≡ true → text_of names owner ≡ other
text_is names owner text other b at is true_is = text_of-at names owner text at ∙ (bytes_eq-Decides text other).0 (sym is ∙ true_is)

pub text_is_not : (names : List (List ℕ)) (owner : NameId) (text other : List ℕ) (b : Bool) → slice_get names owner.0 ≡ Some text → b ≡ bytes_eq text other → b ≡ false
    → bytes_eq (text_of names owner) other ≡ false
text_is_not names owner text other b at is false_is = ap (λ t. bytes_eq t other) (text_of-at names owner text at) ∙ sym is ∙ false_is
