-- What the entries of export lists name: the steps of loops over what is bound, over types, over imports and over entries.
use Rattle.std.proofs.Common.{◌≡◌, ◌∙◌, ◌&&◌, ℕ, ◌+◌, ◌<◌, ◌≤◌, Bool, true, false, List, [], ◌∷◌, ◌++◌, None, map, take, take_all, get_or, length, refl, sym, ap, ap₂, subst, append-nil, not, if◌then◌else◌, Result, Ok, Err}
use Rattle.std.proofs.lemmas.List.{map-append, map_more}
use Rattle.std.proofs.lemmas.List.Concat.{flat_map-append}
use Rattle.std.proofs.lemmas.List.Elements.{All-append, All-nil, filter-append}
use Rattle.std.specs.declared.alloc.AllocError.{AllocError}
use Rattle.std.specs.declared.alloc.Global.{Global}
use Rattle.std.specs.declared.vec.Vec.{Vec}
use Rattle.std.specs.List.{All, filter, flat_map}
use Rattle.std.specs.Prelude.{IfOk, nat_eq}
use Rattle.cu_entities.specs.Bindings.{Binding, entities_of}
use Rattle.cu_entities.specs.declared.entities.Entity as code
use Rattle.cu_entities.specs.declared.entity_set.EntitySet.{EntitySet}
use Rattle.cu_entities.specs.Entities.{Entity, distinct}
use Rattle.cu_entities.specs.EntityMeaning.{EntityIsKnown, entities_meaning, entity_meaning}
use Rattle.cu_entities.specs.EntitySets.{IsSet}
use Rattle.cu_names.specs.declared.names.NameId.{NameId}
use Rattle.cu_names.specs.Texts.{AllDiffer, IsKnown, text_of}
use Rattle.cu_syntax.specs.declared.items.Constructors.{Constructors}
use Rattle.cu_syntax.specs.declared.items.Export.{Export}
use Rattle.cu_syntax.specs.declared.items.Import.{Import}
use Rattle.cu_syntax.specs.Items.{constructors_meaning, import_meaning}
use Rattle.cu_syntax.specs.Owners.{ConstructorsAreOf, ExportIsOf, ImportIsOf}
use Rattle.cu_syntax.specs.Syntax as syntax
use Rattle.cu_syntax.specs.Syntax.{ConstructorsNamed}
use Rattle.cu_modules.specs.declared.module_scope.Bound.{Bound}
use Rattle.cu_modules.specs.declared.module_scope.ModuleScope.{ModuleScope}
use Rattle.cu_modules.specs.Inside.Binding.{BoundIsKnown, IsScope, bound_meaning}
use Rattle.cu_modules.specs.Inside.Exporting.{brings}
use Rattle.cu_modules.specs.Known.{AreEntities}
use Rattle.cu_modules.specs.Scopes.{Interface, comes_with, constructors_in, imported, is_hidden, is_type_of, names_module, unqualified}
use Rattle.cu_modules.proofs.BindingLemmas.{no_entity}
use Rattle.cu_modules.proofs.EntityLemmas.{pushed}
use Rattle.cu_modules.proofs.ListLemmas.{comes_by, type_of_by}
use Rattle.cu_modules.proofs.NameLemmas.{same_name}

-- what is read past the end of what is bound
abbrev pub no_bound : Bound
no_bound = record { qualifier = None; entity = no_entity }

-- ---- filters of lists with one element more

pub filter_out : {B : Type 0} (test : B → Bool) (ys more : List B) (y : B) → more ≡ ys ++ y ∷ [] → test y ≡ false → filter test more ≡ filter test ys
filter_out test ys more y is fails =
    ap (filter test) is ∙ filter-append test ys (y ∷ []) ∙ ap (λ b. filter test ys ++ (if b then y ∷ [] else [])) fails ∙ append-nil (filter test ys)

pub filter_in : {B : Type 0} (test : B → Bool) (ys more : List B) (y : B) → more ≡ ys ++ y ∷ [] → test y ≡ true → filter test more ≡ filter test ys ++ y ∷ []
filter_in test ys more y is passes = ap (filter test) is ∙ filter-append test ys (y ∷ []) ∙ ap (λ b. filter test ys ++ (if b then y ∷ [] else [])) passes

-- the entities of one binding more
pub entities_more : (names : List (List ℕ)) (bs : List Bound) (i : ℕ) (d : Bound) → i < length bs
    → entities_of (map (bound_meaning names) (take (i + 1) bs)) ≡ entities_of (map (bound_meaning names) (take i bs)) ++ entity_meaning names (get_or bs i d).entity ∷ []
entities_more names bs i d within =
    ap entities_of (map_more (bound_meaning names) bs i d within) ∙ map-append (λ (b : Binding). b.entity) (map (bound_meaning names) (take i bs)) (bound_meaning names (get_or bs i d) ∷ [])

-- ---- bindings that pass a test

pub not_matched : (names : List (List ℕ)) (test : Binding → Bool) (bs : List Bound) (i : ℕ) (d : Bound) (found : List code.Entity) → i < length bs → test (bound_meaning names (get_or bs i d)) ≡ false
    → AreEntities names (entities_of (filter test (map (bound_meaning names) (take i bs)))) found → AreEntities names (entities_of (filter test (map (bound_meaning names) (take (i + 1) bs)))) found
not_matched names test bs i d found within fails has =
    subst (λ (xs : List Binding). AreEntities names (entities_of xs) found)
    (sym (filter_out test (map (bound_meaning names) (take i bs)) (map (bound_meaning names) (take (i + 1) bs)) (bound_meaning names (get_or bs i d)) (map_more (bound_meaning names) bs i d within) fails)) has

pub one_matched : (names : List (List ℕ)) (test : Binding → Bool) (bs : List Bound) (i : ℕ) (d : Bound) (old new : List code.Entity) → i < length bs → All (BoundIsKnown names) bs
    → test (bound_meaning names (get_or bs i d)) ≡ true → new ≡ old ++ (get_or bs i d).entity ∷ []
    → AreEntities names (entities_of (filter test (map (bound_meaning names) (take i bs)))) old → AreEntities names (entities_of (filter test (map (bound_meaning names) (take (i + 1) bs)))) new
one_matched names test bs i d old new within known passes is has =
    let done = filter test (map (bound_meaning names) (take i bs)) in
    let b = get_or bs i d in
    subst (λ (es : List Entity). AreEntities names es new)
    (sym (ap entities_of (filter_in test (map (bound_meaning names) (take i bs)) (map (bound_meaning names) (take (i + 1) bs)) (bound_meaning names b) (map_more (bound_meaning names) bs i d within) passes)
    ∙ map-append (λ (b : Binding). b.entity) done (bound_meaning names b ∷ [])))
    (pushed names (entities_of done) old new b.entity (entity_meaning names b.entity) is refl (known i d within).entity has)

pub all_matched : (names : List (List ℕ)) (test : Binding → Bool) (bs : List Bound) (i : ℕ) (found : List code.Entity) → length bs ≤ i
    → AreEntities names (entities_of (filter test (map (bound_meaning names) (take i bs)))) found → AreEntities names (entities_of (filter test (map (bound_meaning names) bs))) found
all_matched names test bs i found done has = subst (λ (xs : List Bound). AreEntities names (entities_of (filter test (map (bound_meaning names) xs))) found) (take_all i bs done) has

-- ---- bound entities that pass a test

pub not_chosen : (names : List (List ℕ)) (test : Entity → Bool) (bs : List Bound) (i : ℕ) (d : Bound) (found : List code.Entity) → i < length bs → test (entity_meaning names (get_or bs i d).entity) ≡ false
    → AreEntities names (filter test (entities_of (map (bound_meaning names) (take i bs)))) found → AreEntities names (filter test (entities_of (map (bound_meaning names) (take (i + 1) bs)))) found
not_chosen names test bs i d found within fails has =
    subst (λ (es : List Entity). AreEntities names es found)
    (sym (filter_out test (entities_of (map (bound_meaning names) (take i bs))) (entities_of (map (bound_meaning names) (take (i + 1) bs))) (entity_meaning names (get_or bs i d).entity) (entities_more names bs i d within) fails)) has

pub one_chosen : (names : List (List ℕ)) (test : Entity → Bool) (bs : List Bound) (i : ℕ) (d : Bound) (old new : List code.Entity) → i < length bs → All (BoundIsKnown names) bs
    → test (entity_meaning names (get_or bs i d).entity) ≡ true → new ≡ old ++ (get_or bs i d).entity ∷ []
    → AreEntities names (filter test (entities_of (map (bound_meaning names) (take i bs)))) old → AreEntities names (filter test (entities_of (map (bound_meaning names) (take (i + 1) bs)))) new
one_chosen names test bs i d old new within known passes is has =
    let es = entities_of (map (bound_meaning names) (take i bs)) in
    let e = (get_or bs i d).entity in
    subst (λ (es : List Entity). AreEntities names es new)
    (sym (filter_in test es (entities_of (map (bound_meaning names) (take (i + 1) bs))) (entity_meaning names e) (entities_more names bs i d within) passes))
    (pushed names (filter test es) old new e (entity_meaning names e) is refl (known i d within).entity has)

pub every_chosen : (names : List (List ℕ)) (test : Entity → Bool) (bs : List Bound) (i : ℕ) (found : List code.Entity) → length bs ≤ i
    → AreEntities names (filter test (entities_of (map (bound_meaning names) (take i bs)))) found → AreEntities names (filter test (entities_of (map (bound_meaning names) bs))) found
every_chosen names test bs i found done has = subst (λ (xs : List Bound). AreEntities names (filter test (entities_of (map (bound_meaning names) xs))) found) (take_all i bs done) has

-- ---- lists one after another

pub no_entities : (names : List (List ℕ)) (found : List code.Entity) → found ≡ [] → AreEntities names [] found
no_entities names found none = subst (λ (es : List code.Entity). AreEntities names [] es) (sym none) (record { are = refl; known = All-nil (EntityIsKnown names) })

pub both : (names : List (List ℕ)) (one two : List Entity) (a b c : List code.Entity) → c ≡ a ++ b → AreEntities names one a → AreEntities names two b → AreEntities names (one ++ two) c
both names one two a b c is first second =
    subst (λ (es : List code.Entity). AreEntities names (one ++ two) es) (sym is) (record {
      are = map-append (entity_meaning names) a b ∙ (λ j. first.are j ++ second.are j);
      known = All-append (EntityIsKnown names) a b first.known second.known;
    })

pub same_items : (names : List (List ℕ)) (meant : List Entity) (a b : List code.Entity) → b ≡ a → AreEntities names meant a → AreEntities names meant b
same_items names meant a b is has = subst (λ (es : List code.Entity). AreEntities names meant es) (sym is) has

pub one_flat : {A B : Type 0} (names : List (List ℕ)) (f : B → List Entity) (g : A → B) (xs : List A) (i : ℕ) (x d : A) (a slice b c : List code.Entity) → i < length xs → x ≡ get_or xs i d → slice ≡ b → c ≡ a ++ slice
    → AreEntities names (f (g x)) b → AreEntities names (flat_map f (map g (take i xs))) a → AreEntities names (flat_map f (map g (take (i + 1) xs))) c
one_flat names f g xs i x d a slice b c within at same is here has =
    let done = map g (take i xs) in
    let more : map g (take (i + 1) xs) ≡ done ++ g x ∷ [] = map_more g xs i d within ∙ ap (λ x. done ++ g x ∷ []) (sym at) in
    subst (λ (es : List Entity). AreEntities names es c)
    (sym (ap (flat_map f) more ∙ flat_map-append f done (g x ∷ []) ∙ ap (λ es. flat_map f done ++ es) (append-nil (f (g x)))))
    (both names (flat_map f done) (f (g x)) a slice c is has (same_items names (f (g x)) b slice same here))

pub all_flat : {A B : Type 0} (names : List (List ℕ)) (f : B → List Entity) (g : A → B) (xs : List A) (i : ℕ) (meant : List B) (found : List code.Entity) → length xs ≤ i → map g xs ≡ meant
    → AreEntities names (flat_map f (map g (take i xs))) found → AreEntities names (flat_map f meant) found
all_flat {B = B} names f g xs i meant found done are has = subst (λ (ys : List B). AreEntities names (flat_map f ys) found) (ap (map g) (take_all i xs done) ∙ are) has

-- of elements that pass a test

pub none_flat : {A B : Type 0} (names : List (List ℕ)) (f : B → List Entity) (test : B → Bool) (g : A → B) (xs : List A) (i : ℕ) (x : A) (found : List code.Entity) → i < length xs → x ≡ get_or xs i x → test (g x) ≡ false
    → AreEntities names (flat_map f (filter test (map g (take i xs)))) found → AreEntities names (flat_map f (filter test (map g (take (i + 1) xs)))) found
none_flat {B = B} names f test g xs i x found within at fails has =
    let done = map g (take i xs) in
    subst (λ (ys : List B). AreEntities names (flat_map f ys) found)
    (sym (filter_out test done (map g (take (i + 1) xs)) (g x) (map_more g xs i x within ∙ ap (λ x. done ++ g x ∷ []) (sym at)) fails)) has

pub kept_flat : {A B : Type 0} (names : List (List ℕ)) (f : B → List Entity) (test : B → Bool) (g : A → B) (xs : List A) (i : ℕ) (x : A) (a slice b c : List code.Entity) → i < length xs → x ≡ get_or xs i x → test (g x) ≡ true
    → slice ≡ b → c ≡ a ++ slice → AreEntities names (f (g x)) b
    → AreEntities names (flat_map f (filter test (map g (take i xs)))) a → AreEntities names (flat_map f (filter test (map g (take (i + 1) xs)))) c
kept_flat names f test g xs i x a slice b c within at passes same is here has =
    let done = map g (take i xs) in
    subst (λ (es : List Entity). AreEntities names es c)
    (sym (ap (flat_map f) (filter_in test done (map g (take (i + 1) xs)) (g x) (map_more g xs i x within ∙ ap (λ x. done ++ g x ∷ []) (sym at)) passes)
    ∙ flat_map-append f (filter test done) (g x ∷ []) ∙ ap (λ es. flat_map f (filter test done) ++ es) (append-nil (f (g x)))))
    (both names (flat_map f (filter test done)) (f (g x)) a slice c is has (same_items names (f (g x)) b slice same here))

pub every_flat : {A B : Type 0} (names : List (List ℕ)) (f : B → List Entity) (test : B → Bool) (g : A → B) (xs : List A) (i : ℕ) (meant : List B) (found : List code.Entity) → length xs ≤ i → map g xs ≡ meant
    → AreEntities names (flat_map f (filter test (map g (take i xs)))) found → AreEntities names (flat_map f (filter test meant)) found
every_flat {B = B} names f test g xs i meant found done are has = subst (λ (ys : List B). AreEntities names (flat_map f (filter test ys)) found) (ap (map g) (take_all i xs done) ∙ are) has

-- ---- each once

pub once_more : (names : List (List ℕ)) (es : List code.Entity) (i : ℕ) (d : code.Entity) (set : EntitySet) → i < length es
    → IsSet names (entities_meaning names (take i es) ++ entity_meaning names (get_or es i d) ∷ []) set → IsSet names (entities_meaning names (take (i + 1) es)) set
once_more names es i d set within is = subst (λ (xs : List Entity). IsSet names xs set) (sym (map_more (entity_meaning names) es i d within)) is

pub once : (names : List (List ℕ)) (meant : List Entity) (es : List code.Entity) (i : ℕ) (set : EntitySet) (slice found : List code.Entity) → length es ≤ i → AreEntities names meant es
    → IsSet names (entities_meaning names (take i es)) set
    → ((entities : List Entity) → IsSet names entities set → entities_meaning names slice ≡ distinct entities) → ((entities : List Entity) → IsSet names entities set → All (EntityIsKnown names) slice)
    → found ≡ slice → AreEntities names (distinct meant) found
once names meant es i set slice found done are has entities known is =
    let whole : IsSet names meant set = subst (λ (xs : List Entity). IsSet names xs set) (ap (entities_meaning names) (take_all i es done) ∙ are.are) has in
    same_items names (distinct meant) slice found is (record { are = entities meant whole; known = known meant whole })

pub once_told : (names : List (List ℕ)) (meant : List Entity) (es : List code.Entity) (i : ℕ) (set : EntitySet) (slice : List code.Entity) (result : Result (Vec code.Entity Global) AllocError) → length es ≤ i
    → AreEntities names meant es → IsSet names (entities_meaning names (take i es)) set
    → ((entities : List Entity) → IsSet names entities set → entities_meaning names slice ≡ distinct entities) → ((entities : List Entity) → IsSet names entities set → All (EntityIsKnown names) slice)
    → IfOk result (λ v. v.items ≡ slice) → IfOk result (λ v. AreEntities names (distinct meant) v.items)
once_told names meant es i set slice result done are has entities known copied = by result copied
  where
    by : (r : Result (Vec code.Entity Global) AllocError) → IfOk r (λ v. v.items ≡ slice) → IfOk r (λ v. AreEntities names (distinct meant) v.items)
    by (Ok v) is = once names meant es i set slice v.items done are has entities known is
    by (Err e) is = tt

-- ---- scopes

pub bound_known : (names : List (List ℕ)) (bindings : List Binding) (s : ModuleScope) (slice : List Bound) → slice ≡ s.bound.items → IsScope names bindings s → All (BoundIsKnown names) slice
bound_known names bindings s slice same is = subst (All (BoundIsKnown names)) (sym same) is.known

pub found_in_scope : (names : List (List ℕ)) (test : Binding → Bool) (bindings : List Binding) (s : ModuleScope) (slice : List Bound) (items found : List code.Entity) → slice ≡ s.bound.items → IsScope names bindings s → found ≡ items
    → AreEntities names (entities_of (filter test (map (bound_meaning names) slice))) items → AreEntities names (entities_of (filter test bindings)) found
found_in_scope names test bindings s slice items found same is copied has =
    same_items names (entities_of (filter test bindings)) items found copied
    (subst (λ (bs : List Binding). AreEntities names (entities_of (filter test bs)) items) (ap (map (bound_meaning names)) same ∙ is.listed) has)

pub in_scope : (names : List (List ℕ)) (which : ConstructorsNamed) (t : Entity) (bindings : List Binding) (s : ModuleScope) (slice : List Bound) (found : List code.Entity) → slice ≡ s.bound.items → IsScope names bindings s
    → AreEntities names (constructors_in (map (bound_meaning names) slice) which t) found → AreEntities names (constructors_in bindings which t) found
in_scope names which t bindings s slice found same is has =
    subst (λ (bs : List Binding). AreEntities names (constructors_in bs which t) found) (ap (map (bound_meaning names)) same ∙ is.listed) has

abbrev pub comes_of : ConstructorsNamed → Entity → Entity → Bool
comes_of which t e = is_type_of e t && comes_with which e

pub brought_by : (owner : NameId) (names : List (List ℕ)) (which : Constructors) (t e : code.Entity) (result : Bool) → result ≡ brings which t e → AllDiffer names → ConstructorsAreOf owner names which → EntityIsKnown names t → EntityIsKnown names e
    → result ≡ comes_of (constructors_meaning names which) (entity_meaning names t) (entity_meaning names e)
brought_by owner names which t e result is differ own known_t known = is ∙ ap₂ (λ a b. a && b) (type_of_by names e t differ known known_t) (comes_by owner names which e differ own known)

-- ---- imports

pub not_open : (names : List (List ℕ)) (mine : List Entity) (before : List Interface) (i : syntax.Import) (found : List code.Entity) → i.qualified ≡ true → found ≡ [] → AreEntities names (unqualified mine before i) found
not_open names mine before i found qualified none =
    subst (λ b. AreEntities names (if b then [] else filter (λ e. not (is_hidden mine e)) (imported before i)) found) (sym qualified) (no_entities names found none)

pub open_told : (names : List (List ℕ)) (mine : List Entity) (before : List Interface) (i : syntax.Import) (result : Result (Vec code.Entity Global) AllocError) → i.qualified ≡ false
    → IfOk result (λ v. AreEntities names (filter (λ e. not (is_hidden mine e)) (imported before i)) v.items) → IfOk result (λ v. AreEntities names (unqualified mine before i) v.items)
open_told names mine before i result open' has =
    subst (λ b. IfOk result (λ v. AreEntities names (if b then [] else filter (λ e. not (is_hidden mine e)) (imported before i)) v.items)) (sym open') has

pub import_owned : (owner : NameId) (names : List (List ℕ)) (is : List Import) (i : ℕ) (x : Import) → i < length is → x ≡ get_or is i x → All (ImportIsOf owner names) is → ImportIsOf owner names x
import_owned owner names is i x within at owned = subst (λ (x : Import). ImportIsOf owner names x) (sym at) (owned i x within)

pub of_name : (names : List (List ℕ)) (x : Import) (name : NameId) (result b : Bool) → result ≡ nat_eq x.name.text.0 name.0 → result ≡ b → AllDiffer names → IsKnown names x.name.text → IsKnown names name
    → names_module (text_of names name) (import_meaning names x) ≡ b
of_name names x name result b is settled differ known known_name = sym (same_name names x.name.text name differ known known_name) ∙ sym is ∙ settled

pub export_owned : (owner : NameId) (names : List (List ℕ)) (xs : List Export) (i : ℕ) (x : Export) → i < length xs → x ≡ get_or xs i x → All (ExportIsOf owner names) xs → ExportIsOf owner names x
export_owned owner names xs i x within at owned = subst (λ (x : Export). ExportIsOf owner names x) (sym at) (owned i x within)
