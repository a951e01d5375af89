-- What names mean, and uses with a wrong number of arguments.
use Rattle.std.proofs.Common.{◌≡◌, ◌↔◌, ◌∙◌, inl, inr, ◌<◌, ◌≤◌, ◌+◌, ℕ, zero, suc, Bool, true, false, not, List, [], ◌∷◌, ◌++◌, Option, None, Some, length, drop, get_or, if◌then◌else◌, refl, sym, ap, subst, true≢false, eq-eqb, eqb-true, arith}
use Rattle.std.proofs.lemmas.List.{append-nil, append_assoc}
use Rattle.std.proofs.lemmas.List.Concat.{flat_map-cons}
use Rattle.std.proofs.lemmas.List.Elements.{All-get_or}
use Rattle.std.specs.List.{All}
use Rattle.std.specs.Prelude.{nat_eq, slice_get}
use Rattle.cu_cycles.proofs.Lists.{get_suffix}
use Rattle.cu_cycles.proofs.Places.{prefix_or_suffix, one_element}
use Rattle.cu_entities.specs.Bindings.{Binding}
use Rattle.cu_entities.specs.Entities.{Entity, Types}
use Rattle.cu_modules.specs.Means.{Means}
use Rattle.cu_modules.specs.ScopeAnswers.{IsNamed}
use Rattle.cu_modules.specs.Scopes.{Named, meant}
use Rattle.cu_names.specs.declared.names.NameId.{NameId}
use Rattle.cu_syntax.specs.declared.name.Name as code
use Rattle.cu_syntax.specs.Names.{name_meaning}
use Rattle.cu_syntax.specs.Owners.{NameIsOf}
use Rattle.cu_declared.specs.declared.first_fault.FirstFault.{FirstFault}
use Rattle.cu_declared.specs.declared.found.TypeUse as uses
use Rattle.cu_declared.specs.Inside.Arities.{alone, arity_faults, differs, entity_meant, is_wrong, is_wrong_for, use_faults}
use Rattle.cu_declared.specs.Inside.Gathered.{UseIsOf, use_meaning, uses_meaning}
use Rattle.cu_declared.specs.Inside.Told.{AreTold, Told, World, bindings_of}
use Rattle.cu_declared.specs.Parameters.{Numbered, all_parameters, number_of}
use Rattle.cu_declared.specs.TypeFaults.{Fault, IsArityFault, arity_fault, scope_at}
use Rattle.cu_declared.specs.TypeUses.{TypeUse}
use Rattle.cu_declared.proofs.AddsLemmas.{prefix, nothing_left}

pub named : (owner : NameId) (names : List (List ℕ)) (name : code.Name) → NameIsOf owner names name → IsNamed names name.qualifier name.base (name_meaning names name)
named owner names name of = record { qualifier_is = refl; base_is = refl; qualifier_known = of.qualifier; base_known = of.base }

-- ---- one entity

is_alone : (es : List Entity) (found : Option Entity) → ((e : Entity) → found ≡ Some e → es ≡ e ∷ []) → ((e : Entity) → es ≡ e ∷ [] → found ≡ Some e) → found ≡ alone es
is_alone [] None one converse = refl
is_alone [] (Some e) one converse = let no : [] ≡ e ∷ [] = one e refl in let never : ⊥ = cc in absurd never
is_alone (e ∷ []) found one converse = converse e refl
is_alone (e ∷ f ∷ es) None one converse = refl
is_alone (e ∷ f ∷ es) (Some g) one converse = let no : e ∷ f ∷ es ≡ g ∷ [] = one g refl in let never : ⊥ = cc in absurd never

-- what is alone is one entity
pub alone_is : (es : List Entity) (e : Entity) → alone es ≡ Some e → es ≡ e ∷ []
alone_is [] e is = let never : ⊥ = cc in absurd never
alone_is (f ∷ []) e is = let same : f ≡ e = cc in ap (λ x. x ∷ []) same
alone_is (f ∷ g ∷ es) e is = let never : ⊥ = cc in absurd never

pub is_meant : (w : World) (number : ℕ) (used : TypeUse) (found : Option Entity) → number ≡ w.number → slice_get w.modules w.number ≡ Some w.m
    → ((e : Entity) → (found ≡ Some e ↔ Means w.modules number Types used.name e)) → found ≡ entity_meant (bindings_of w) used
is_meant w number used found same at means = is_alone (meant (bindings_of w) Types used.name) found there converse
  where
    there : (e : Entity) → found ≡ Some e → meant (bindings_of w) Types used.name ≡ e ∷ []
    there e is =
        let m = subst (λ (n : ℕ). Means w.modules n Types used.name e) same ((means e).0 is) in
        let module_is : m.m ≡ w.m = one_element w.modules w.number m.m w.m m.is_there at in
        subst (λ (x : Named). meant (scope_at w.modules w.number x) Types used.name ≡ e ∷ []) module_is m.is_alone

    converse : (e : Entity) → meant (bindings_of w) Types used.name ≡ e ∷ [] → found ≡ Some e
    converse e is = (means e).1 (subst (λ (n : ℕ). Means w.modules n Types used.name e) (sym same) (record { m = w.m; is_there = at; is_alone = is }))

-- ---- faults that were told

pub told_none : (w : World) (a : FirstFault) → Told w a [] a
told_none w a = record { told = λ faults is. subst (λ fs. AreTold w.owner w.names fs a) (sym (append-nil faults)) is }

pub told_both : {w : World} {a b c : FirstFault} {fs gs : List Fault} → Told w a fs b → Told w b gs c → Told w a (fs ++ gs) c
told_both {w = w} {c = c} {fs = fs} {gs = gs} one two = record {
  told = λ faults is. subst (λ hs. AreTold w.owner w.names hs c) (append_assoc faults fs gs) (two.told (faults ++ fs) (one.told faults is));
}

pub told_as : (w : World) (a b : FirstFault) (fs gs : List Fault) → fs ≡ gs → Told w a fs b → Told w a gs b
told_as w a b fs gs same told = subst (λ hs. Told w a hs b) same told

pub told_prefix : {X : Type 0} (P : X → Type 0) (F : List X → List Fault) (f : X → List Fault) → ((x : X) (xs : List X) → F (x ∷ xs) ≡ f x ++ F xs)
    → (w : World) (xs : List X) (i : ℕ) (x : X) (a b c : FirstFault) → x ≡ get_or xs i x → i < length xs → All P xs
    → (P x → Told w a (f x) b) → Told w b (F (drop (i + 1) xs)) c → Told w a (F (drop i xs)) c
told_prefix P F f cons w xs i x a b c is within all here suffix =
    subst (λ fs. Told w a fs c) (prefix F f cons xs i x is within) (told_both (here (subst P (sym is) (All-get_or P xs i x within all))) suffix)

pub told_end : {X : Type 0} (F : List X → List Fault) → F [] ≡ [] → (w : World) (xs : List X) (i : ℕ) (a : FirstFault) → length xs ≤ i → Told w a (F (drop i xs)) a
told_end F empty w xs i a past = subst (λ fs. Told w a fs a) (sym (nothing_left F empty xs i past)) (told_none w a)

-- ---- uses with a wrong number of arguments

pub wrong_told : (w : World) (numbers : List Numbered) (used : TypeUse) (b : Bool) (first after : FirstFault) → b ≡ is_wrong numbers (bindings_of w) used → b ≡ true
    → ((faults : List Fault) → AreTold w.owner w.names faults first → AreTold w.owner w.names (faults ++ arity_fault used ∷ []) after)
    → Told w first (use_faults numbers (bindings_of w) used) after
wrong_told w numbers used b first after is wrong tells =
    told_as w first after (arity_fault used ∷ []) (use_faults numbers (bindings_of w) used)
    (ap (λ (x : Bool). if x then arity_fault used ∷ [] else []) (sym wrong ∙ is)) (record { told = tells })

pub right_told : (w : World) (numbers : List Numbered) (used : TypeUse) (b : Bool) (first : FirstFault) → b ≡ is_wrong numbers (bindings_of w) used → b ≡ false
    → Told w first (use_faults numbers (bindings_of w) used) first
right_told w numbers used b first is right =
    told_as w first first [] (use_faults numbers (bindings_of w) used)
    (ap (λ (x : Bool). if x then arity_fault used ∷ [] else []) (sym right ∙ is)) (told_none w first)

abbrev pub in_uses : World → List Numbered → List uses.TypeUse → List Fault
in_uses w numbers us = arity_faults numbers (bindings_of w) (uses_meaning w.names us)

pub uses_prefix : (w : World) (numbers : List Numbered) (xs : List uses.TypeUse) (i : ℕ) (x : uses.TypeUse) (a b c : FirstFault) → x ≡ get_or xs i x → i < length xs → All (UseIsOf w.owner w.names) xs
    → (UseIsOf w.owner w.names x → Told w a (use_faults numbers (bindings_of w) (use_meaning w.names x)) b) → Told w b (in_uses w numbers (drop (i + 1) xs)) c → Told w a (in_uses w numbers (drop i xs)) c
uses_prefix w numbers =
    told_prefix (UseIsOf w.owner w.names) (in_uses w numbers) (λ x. use_faults numbers (bindings_of w) (use_meaning w.names x))
    (λ x xs. flat_map-cons (use_faults numbers (bindings_of w)) (use_meaning w.names x) (uses_meaning w.names xs)) w

-- what an element of a list is read as, where there is one, asks for no default
pub get_or_any : {A : Type 0} (xs : List A) (i : ℕ) (d e : A) → i < length xs → get_or xs i d ≡ get_or xs i e
get_or_any [] i d e h = absurd (omega arith)
get_or_any (x ∷ xs) zero d e h = refl
get_or_any (x ∷ xs) (suc i) d e h = get_or_any xs i d e (omega arith)

abbrev no_id : NameId
no_id = record { 0 = 0 }

abbrev pub no_use : uses.TypeUse
no_use = record { name = record { text = no_id; qualifier = None; base = no_id; place = record { «module» = no_id; line = 0; column = 0 } }; arguments = 0 }

pub uses_next : (w : World) (numbers : List Numbered) (xs : List uses.TypeUse) (i : ℕ) (a b c : FirstFault) → i < length xs → All (UseIsOf w.owner w.names) xs
    → (UseIsOf w.owner w.names (get_or xs i no_use) → Told w a (use_faults numbers (bindings_of w) (use_meaning w.names (get_or xs i no_use))) b) → Told w b (in_uses w numbers (drop (i + 1) xs)) c
    → Told w a (in_uses w numbers (drop i xs)) c
uses_next w numbers xs i a b c within all here rest =
    uses_prefix w numbers xs i (get_or xs i no_use) a b c (get_or_any xs i no_use (get_or xs i no_use) within) within all here rest

pub uses_end : (w : World) (numbers : List Numbered) (xs : List uses.TypeUse) (i : ℕ) (a : FirstFault) → length xs ≤ i → Told w a (in_uses w numbers (drop i xs)) a
uses_end w numbers = told_end (in_uses w numbers) refl w

-- ---- what these faults are

differs_not : (found : Option ℕ) (n : ℕ) → differs found n ≡ true → found ≡ Some n → ⊥
differs_not None n is e = cc
differs_not (Some k) n is e =
    let same : k ≡ n = cc in
    let alike : nat_eq k n ≡ true = eq-eqb k n same in
    true≢false (sym is ∙ ap not alike)

differs_if : (found : Option ℕ) (n : ℕ) → (found ≡ Some n → ⊥) → differs found n ≡ true
differs_if None n never = refl
differs_if (Some k) n never = by (nat_eq k n) refl
  where
    by : (b : Bool) → nat_eq k n ≡ b → not (nat_eq k n) ≡ true
    by true e = absurd (never (ap Some (eqb-true k n e)))
    by false e = ap not e

abbrev IsWrongUse : List Numbered → List Binding → TypeUse → Type 0
IsWrongUse numbers bindings used = (e : Entity) × (meant bindings Types used.name ≡ e ∷ []) × (number_of numbers e ≡ Some used.arguments → ⊥)

wrong_for : (numbers : List Numbered) (n : ℕ) (found : Option Entity) → is_wrong_for numbers n found ≡ true → (e : Entity) × (found ≡ Some e) × (number_of numbers e ≡ Some n → ⊥)
wrong_for numbers n None is = absurd (true≢false (sym is))
wrong_for numbers n (Some e) is = (e, refl, differs_not (number_of numbers e) n is)

wrong_from : (numbers : List Numbered) (bindings : List Binding) (used : TypeUse) → is_wrong numbers bindings used ≡ true → IsWrongUse numbers bindings used
wrong_from numbers bindings used is =
    let found = wrong_for numbers used.arguments (entity_meant bindings used) is in
    (found.0, alone_is (meant bindings Types used.name) found.0 found.1, found.2)

wrong_by : (numbers : List Numbered) (bindings : List Binding) (used : TypeUse) → IsWrongUse numbers bindings used → is_wrong numbers bindings used ≡ true
wrong_by numbers bindings used has =
    ap (λ (es : List Entity). is_wrong_for numbers used.arguments (alone es)) has.1 ∙ differs_if (number_of numbers has.0) used.arguments has.2

here_or_not : (numbers : List Numbered) (bindings : List Binding) (used : TypeUse) (b : Bool) (k : ℕ) (f : Fault) → slice_get (if b then arity_fault used ∷ [] else []) k ≡ Some f → (b ≡ true) × (f ≡ arity_fault used)
here_or_not numbers bindings used true zero f e = (refl, cc)
here_or_not numbers bindings used true (suc k) f e = let never : ⊥ = cc in absurd never
here_or_not numbers bindings used false k f e = let never : ⊥ = cc in absurd never

-- a fault that was told is one of the uses'
pub arity_from : (numbers : List Numbered) (bindings : List Binding) (uses : List TypeUse) (k : ℕ) (f : Fault) → slice_get (arity_faults numbers bindings uses) k ≡ Some f
    → (used : TypeUse) × (place : ℕ) × (slice_get uses place ≡ Some used) × IsWrongUse numbers bindings used × (f ≡ arity_fault used)
arity_from numbers bindings [] k f e = let never : ⊥ = cc in absurd never
arity_from numbers bindings (used ∷ uses) k f e =
    elim (prefix_or_suffix (use_faults numbers bindings used) (arity_faults numbers bindings uses) k f
    (subst (λ fs. slice_get fs k ≡ Some f) (flat_map-cons (use_faults numbers bindings) used uses) e)) [
      | inl h ↦ let found = here_or_not numbers bindings used (is_wrong numbers bindings used) k f h in
          (used, 0, refl, wrong_from numbers bindings used found.0, found.1)
      | inr h ↦ let rest = arity_from numbers bindings uses h.0 f h.2 in (rest.0, suc rest.1, rest.2, rest.3, rest.4)
    ]

-- and each of the uses' was told
pub arity_by : (numbers : List Numbered) (bindings : List Binding) (uses : List TypeUse) (place : ℕ) (used : TypeUse) → slice_get uses place ≡ Some used → IsWrongUse numbers bindings used
    → (k : ℕ) × (slice_get (arity_faults numbers bindings uses) k ≡ Some (arity_fault used))
arity_by numbers bindings [] place used e has = let never : ⊥ = cc in absurd never
arity_by numbers bindings (u ∷ uses) zero used e has =
    let same : u ≡ used = cc in
    let here : use_faults numbers bindings u ≡ arity_fault used ∷ [] =
    ap (use_faults numbers bindings) same ∙ ap (λ (b : Bool). if b then arity_fault used ∷ [] else []) (wrong_by numbers bindings used has) in
    (0, subst (λ fs. slice_get fs 0 ≡ Some (arity_fault used)) (sym (flat_map-cons (use_faults numbers bindings) u uses ∙ ap (λ fs. fs ++ arity_faults numbers bindings uses) here)) refl)
arity_by numbers bindings (u ∷ uses) (suc place) used e has =
    let rest = arity_by numbers bindings uses place used e has in (
      length (use_faults numbers bindings u) + rest.0,
      subst (λ fs. slice_get fs (length (use_faults numbers bindings u) + rest.0) ≡ Some (arity_fault used)) (sym (flat_map-cons (use_faults numbers bindings) u uses))
          (get_suffix (use_faults numbers bindings u) (arity_faults numbers bindings uses) rest.0 ∙ rest.1),
    )

-- these faults are those of a text with these uses
pub arity_is : (modules : List Named) (bindings : List Binding) (uses : List TypeUse) (f : Fault)
    → IsArityFault modules bindings uses f ↔ ((k : ℕ) × (slice_get (arity_faults (all_parameters modules) bindings uses) k ≡ Some f))
arity_is modules bindings uses f = (
  λ is.
      let has = is.has in
      let found = arity_by (all_parameters modules) bindings uses is.place is.used is.stands (has.entity, has.means, has.differs) in
      (found.0, found.1 ∙ ap Some (sym is.is)),
  λ told.
      let found = arity_from (all_parameters modules) bindings uses told.0 f told.1 in
      record {
        used = found.0;
        place = found.1;
        stands = found.2;
        has = record { entity = found.3.0; means = found.3.1; differs = found.3.2 };
        is = found.4;
      },
)
