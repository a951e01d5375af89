-- Faults that were told, one after another.
use Rattle.std.proofs.Common.{◌≡◌, ◌∙◌, ℕ, ◌+◌, ◌<◌, ◌≤◌, Bool, List, [], ◌∷◌, ◌++◌, map, take, take_all, get_or, length, refl, sym, ap, subst, append_assoc, append-nil, arith, None, Result}
use Rattle.std.proofs.lemmas.List.{length-map, map_more}
use Rattle.std.proofs.lemmas.List.Concat.{flat_map-append}
use Rattle.std.specs.declared.alloc.AllocError.{AllocError}
use Rattle.std.specs.declared.alloc.Global.{Global}
use Rattle.std.specs.declared.vec.Vec.{Vec}
use Rattle.std.specs.Prelude.{OnOk}
use Rattle.std.specs.List.{All, flat_map, list_any}
use Rattle.cu_entities.specs.Bindings.{Binding}
use Rattle.cu_entities.specs.declared.entities.Entity as code
use Rattle.cu_entities.specs.Entities.{Entity}
use Rattle.cu_entities.specs.EntityMeaning.{EntityIsKnown, entity_meaning}
use Rattle.cu_names.specs.declared.names.NameId.{NameId}
use Rattle.cu_names.specs.Texts.{AllDiffer}
use Rattle.cu_syntax.specs.declared.items.Constructors.{Constructors}
use Rattle.cu_syntax.specs.declared.items.Constructors.TheVariants as constructors
use Rattle.cu_syntax.specs.declared.name.Name as node
use Rattle.cu_syntax.specs.Items.{constructors_meaning}
use Rattle.cu_syntax.specs.Names.{name_meaning}
use Rattle.cu_syntax.specs.Owners.{ConstructorsAreOf, NameIsOf}
use Rattle.cu_syntax.specs.Syntax.{Item, Name, Only}
use Rattle.cu_uses.specs.Demands.{items_demands}
use Rattle.cu_uses.specs.declared.first_fault.FirstFault.{FirstFault}
use Rattle.cu_uses.specs.declared.fault.Wrong.TheVariants.{Ambiguous, NotExported}
use Rattle.cu_uses.specs.Faults.{Fault, demand_faults, unless_one, wrong_name}
use Rattle.cu_uses.specs.Telling.{AreTold}
use Rattle.cu_modules.specs.Faults.{constructor_faults, unless}
use Rattle.cu_modules.specs.Inside.Lists.{called}
use Rattle.cu_modules.specs.Inside.Telling.{Told}
use Rattle.cu_modules.specs.Known.{AreEntities}
use Rattle.cu_modules.specs.Scopes.{is_called}
use Rattle.cu_modules.proofs.ListLemmas.{any_alike, called_by}

-- ---- faults one after another

pub told_none : (owner : NameId) (names : List (List ℕ)) (s : FirstFault) → Told owner names s [] s
told_none owner names s = record { told = λ before is. subst (λ (fs : List Fault). AreTold owner names fs s) (sym (append-nil before)) is }

pub told_both : (owner : NameId) (names : List (List ℕ)) (a b c : FirstFault) (fs gs : List Fault) → Told owner names a fs b → Told owner names b gs c → Told owner names a (fs ++ gs) c
told_both owner names a b c fs gs one two =
    record { told = λ before is. subst (λ (hs : List Fault). AreTold owner names hs c) (append_assoc before fs gs) (two.told (before ++ fs) (one.told before is)) }

-- the same faults
pub told_as : (owner : NameId) (names : List (List ℕ)) (a b : FirstFault) (fs gs : List Fault) → fs ≡ gs → Told owner names a gs b → Told owner names a fs b
told_as owner names a b fs gs same told = subst (λ (hs : List Fault). Told owner names a hs b) (sym same) told

pub told_as_ok : (owner : NameId) (names : List (List ℕ)) (a b : FirstFault) (result : Result (Unit {0}) AllocError) (fs gs : List Fault) → fs ≡ gs → OnOk result (Told owner names a gs b) → OnOk result (Told owner names a fs b)
told_as_ok owner names a b result fs gs same told = subst (λ (hs : List Fault). OnOk result (Told owner names a hs b)) (sym same) told

pub told_nothing : (owner : NameId) (names : List (List ℕ)) (s : FirstFault) (fs : List Fault) → fs ≡ [] → Told owner names s fs s
told_nothing owner names s fs none = told_as owner names s s fs [] none (told_none owner names s)

-- ---- loops

pub at_index : {A : Type 0} (P : A → Type 0) (xs : List A) (i : ℕ) (x : A) → i < length xs → x ≡ get_or xs i x → All P xs → P x
at_index P xs i x within at all = subst P (sym at) (all i x within)

pub told_more : {A B : Type 0} (owner : NameId) (names : List (List ℕ)) (f : B → List Fault) (g : A → B) (xs : List A) (i : ℕ) (x d : A) (a b c : FirstFault) → i < length xs → x ≡ get_or xs i d
    → Told owner names b (f (g x)) c → Told owner names a (flat_map f (map g (take i xs))) b → Told owner names a (flat_map f (map g (take (i + 1) xs))) c
told_more owner names f g xs i x d a b c within at here done =
    let prefix = map g (take i xs) in
    let more : map g (take (i + 1) xs) ≡ prefix ++ g x ∷ [] = map_more g xs i d within ∙ ap (λ x. prefix ++ g x ∷ []) (sym at) in
    told_as owner names a c (flat_map f (map g (take (i + 1) xs))) (flat_map f prefix ++ f (g x))
    (ap (flat_map f) more ∙ flat_map-append f prefix (g x ∷ []) ∙ ap (λ fs. flat_map f prefix ++ fs) (append-nil (f (g x))))
    (told_both owner names a b c (flat_map f prefix) (f (g x)) done here)

pub told_whole : {A B : Type 0} (owner : NameId) (names : List (List ℕ)) (f : B → List Fault) (g : A → B) (xs : List A) (i : ℕ) (meant : List B) (a b : FirstFault) → length xs ≤ i → map g xs ≡ meant
    → Told owner names a (flat_map f (map g (take i xs))) b → Told owner names a (flat_map f meant) b
told_whole {B = B} owner names f g xs i meant a b past are told =
    subst (λ (ys : List B). Told owner names a (flat_map f ys) b) (ap (map g) (take_all i xs past) ∙ are) told

-- all of a module
pub whole_told : (owner : NameId) (names : List (List ℕ)) (exports imports : List Fault) (bindings : List Binding) (known : List (List ℕ)) (xs ys : List Item) (s : FirstFault) → xs ≡ ys
    → AreTold owner names ((exports ++ imports) ++ demand_faults bindings (items_demands known xs)) s → AreTold owner names (exports ++ (imports ++ demand_faults bindings (items_demands known ys))) s
whole_told owner names exports imports bindings known xs ys s same told =
    subst (λ (fs : List Fault). AreTold owner names fs s)
    (append_assoc exports imports (demand_faults bindings (items_demands known xs))
    ∙ ap (λ (zs : List Item). exports ++ (imports ++ demand_faults bindings (items_demands known zs))) same) told

-- ---- names

-- what is read past the end of names
abbrev pub no_name : node.Name
no_name = record {
  text = record { 0 = 0 };
  qualifier = None;
  base = record { 0 = 0 };
  place = record { «module» = record { 0 = 0 }; line = 0; column = 0 };
}

pub any_called : (owner : NameId) (names : List (List ℕ)) (es : List Entity) (entities : List code.Entity) (name : node.Name) → AllDiffer names → NameIsOf owner names name → AreEntities names es entities
    → list_any (λ (e : code.Entity). called name e) entities ≡ list_any (is_called (name_meaning names name)) es
any_called owner names es entities name differ own are =
    any_alike (EntityIsKnown names) (entity_meaning names) (λ (e : code.Entity). called name e) (is_called (name_meaning names name)) (λ e known. called_by owner names name e differ own known) entities are.known
    ∙ ap (list_any (is_called (name_meaning names name))) are.are

pub missing_one : (owner : NameId) (names : List (List ℕ)) (es : List Entity) (entities : List code.Entity) (name : node.Name) (there : Bool) (a b : FirstFault) → AllDiffer names → NameIsOf owner names name
    → AreEntities names es entities → there ≡ list_any (λ (e : code.Entity). called name e) entities → Told owner names a (unless there (name_meaning names name)) b
    → Told owner names a (unless (list_any (is_called (name_meaning names name)) es) (name_meaning names name)) b
missing_one owner names es entities name there a b differ own are is told =
    let n = name_meaning names name in
    told_as owner names a b (unless (list_any (is_called n) es) n) (unless there n) (ap (λ b. unless b n) (sym (is ∙ any_called owner names es entities name differ own are))) told

-- what a name means, by how many entities there are

counted_as : (names : List (List ℕ)) (es : List Entity) (entities : List code.Entity) → AreEntities names es entities → length es ≡ length entities
counted_as names es entities are = ap length (sym are.are) ∙ length-map entities (entity_meaning names)

meant_none : (name : Name) (es : List Entity) → length es ≡ 0 → unless_one NotExported name es ≡ wrong_name NotExported name ∷ []
meant_none name [] none = refl
meant_none name (e ∷ es) none = absurd (omega (arith, none))

meant_one : (name : Name) (es : List Entity) → length es ≡ 1 → unless_one NotExported name es ≡ []
meant_one name [] one = absurd (omega (arith, one))
meant_one name (e ∷ []) one = refl
meant_one name (e ∷ f ∷ es) one = absurd (omega (arith, one))

meant_several : (name : Name) (es : List Entity) → 1 < length es → unless_one NotExported name es ≡ wrong_name Ambiguous name ∷ []
meant_several name [] several = absurd (omega (arith, several))
meant_several name (e ∷ []) several = absurd (omega (arith, several))
meant_several name (e ∷ f ∷ es) several = refl

pub told_lacking : (owner : NameId) (names : List (List ℕ)) (es : List Entity) (entities : List code.Entity) (name : node.Name) (a b : FirstFault) → AreEntities names es entities → length entities ≡ 0
    → Told owner names a (wrong_name NotExported (name_meaning names name) ∷ []) b → Told owner names a (unless_one NotExported (name_meaning names name) es) b
told_lacking owner names es entities name a b are none told =
    let n = name_meaning names name in
    told_as owner names a b (unless_one NotExported n es) (wrong_name NotExported n ∷ []) (meant_none n es (counted_as names es entities are ∙ none)) told

pub told_alone : (owner : NameId) (names : List (List ℕ)) (es : List Entity) (entities : List code.Entity) (name : node.Name) (a : FirstFault) → AreEntities names es entities → length entities ≡ 1
    → Told owner names a (unless_one NotExported (name_meaning names name) es) a
told_alone owner names es entities name a are one =
    let n = name_meaning names name in
    told_nothing owner names a (unless_one NotExported n es) (meant_one n es (counted_as names es entities are ∙ one))

pub told_several : (owner : NameId) (names : List (List ℕ)) (es : List Entity) (entities : List code.Entity) (name : node.Name) (a b : FirstFault) → AreEntities names es entities → 1 < length entities
    → Told owner names a (wrong_name Ambiguous (name_meaning names name) ∷ []) b → Told owner names a (unless_one NotExported (name_meaning names name) es) b
told_several owner names es entities name a b are several told =
    let n = name_meaning names name in
    told_as owner names a b (unless_one NotExported n es) (wrong_name Ambiguous n ∷ []) (meant_several n es (subst (λ k. 1 < k) (sym (counted_as names es entities are)) several)) told

-- the constructors that a list names beside a type

pub only_told : (owner : NameId) (names : List (List ℕ)) (es : List Entity) (which : Constructors) (listed : Vec node.Name Global) (slice : List node.Name) (a b : FirstFault) → which ≡ constructors.Only listed → slice ≡ listed.items
    → ConstructorsAreOf owner names which → (All (NameIsOf owner names) slice → Told owner names a (constructor_faults es (Only (map (name_meaning names) slice))) b)
    → Told owner names a (constructor_faults es (constructors_meaning names which)) b
only_told owner names es which listed slice a b is same own told =
    let owned : ConstructorsAreOf owner names (constructors.Only listed) = subst (ConstructorsAreOf owner names) is own in
    told_as owner names a b (constructor_faults es (constructors_meaning names which)) (constructor_faults es (Only (map (name_meaning names) slice)))
    (ap (λ (which : Constructors). constructor_faults es (constructors_meaning names which)) is
    ∙ ap (λ (xs : List node.Name). constructor_faults es (Only (map (name_meaning names) xs))) (sym same))
    (told (subst (All (NameIsOf owner names)) (sym same) owned))
