-- Modules one after another: their scopes, and the first with a fault.
use Rattle.std.proofs.Common.{◌≡◌, ◌∙◌, ◌⊎◌, inl, inr, ◌||◌, ℕ, ◌+◌, ◌<◌, ◌≤◌, zero, suc, Bool, true, false, List, [], ◌∷◌, ◌++◌, Option, None, Some, Result, Ok, Err, map, take, take_all, get_or, length, refl, sym, ap, subst, append_assoc, append-nil, arith, if◌then◌else◌, true≢false}
use Rattle.std.proofs.lemmas.Bool.Decides.{same_from_decides}
use Rattle.std.proofs.lemmas.List.{length-map, length_push, map-append, take_more}
use Rattle.std.proofs.lemmas.Option.{get_or_from_slice_get, same_Some, slice_get-map, slice_get_read, slice_get_within}
use Rattle.std.proofs.lemmas.Slice.Eq.{bytes_eq-Decides}
use Rattle.std.specs.List.{filter, flat_map}
use Rattle.std.specs.Option.{option_map}
use Rattle.std.specs.Prelude.{IfErr, IsErrAnd, slice_get}
use Rattle.std.specs.Str.{bytes_eq}
use Rattle.cu_entities.specs.declared.name_table.NameTable.{NameTable}
use Rattle.cu_entities.specs.NameTables.{Tells}
use Rattle.cu_uses.specs.Binders.{is_among}
use Rattle.cu_modules.specs.Faults.{faults}
use Rattle.cu_modules.specs.Means.{AreScoped, IsWrong, interfaces_before, no_module, one_more}
use Rattle.cu_modules.specs.Ordering.{AllNew, AreOrdered, module_of, modules_of}
use Rattle.cu_modules.specs.declared.interfaces.Interfaces.{Interfaces}
use Rattle.cu_modules.specs.Exports.{AreInterfaces}
use Rattle.cu_modules.specs.Inside.Outcome.{IsRight, IsWrongIn}
use Rattle.cu_uses.specs.declared.fault.Fault as told
use Rattle.cu_uses.specs.Faults.{Fault}
use Rattle.cu_uses.specs.Telling.{IsFirstIf}
use Rattle.cu_names.specs.Texts.{text_of}
use Rattle.cu_modules.specs.declared.modules.Module.{Module}
use Rattle.cu_modules.specs.declared.scope_fault.ScopeFault.{ScopeFault}
use Rattle.cu_modules.specs.declared.scoped.Scoped.{Scoped}
use Rattle.cu_modules.specs.Inside.Scoped.{IsScoped}
use Rattle.cu_modules.specs.Inside.Scoping.{wrong_at}
use Rattle.cu_modules.specs.ScopeAnswers.{AreScopes, FaultIsKnown, TellsFault, fault_at}
use Rattle.cu_modules.specs.declared.scope_fault.ScopeFault.TheVariants as answer
use Rattle.cu_modules.specs.declared.scopes.Scopes.{Scopes}
use Rattle.cu_uses.specs.declared.fault.Wrong.TheVariants as kind
use Rattle.cu_modules.proofs.ScopingLemmas as scoping
use Rattle.cu_modules.proofs.BindingLemmas.{exports_more}
use Rattle.cu_modules.specs.Scopes.{Interface, Named, exported, exports_of, interface, interfaces, scope}

-- ---- one module more

pub interfaces_more : (before : List Interface) (ms : List Named) (m : Named) → interfaces before (ms ++ m ∷ []) ≡ interfaces before ms ++ interface (interfaces before ms) m ∷ []
interfaces_more before [] m = refl
interfaces_more before (x ∷ ms) m = interfaces_more (before ++ interface before x ∷ []) ms m

pub scoped_more : (before : List Interface) (ms : List Named) (m : Named) → AreScoped before ms → faults (interfaces before ms) m ≡ [] → AreScoped before (ms ++ m ∷ [])
scoped_more before [] m (no_module _) right = one_more before m [] right (no_module (interfaces before (m ∷ [])))
scoped_more before (x ∷ ms) m (one_more _ _ _ here others) right = one_more before x (ms ++ m ∷ []) here (scoped_more (before ++ interface before x ∷ []) ms m others right)

-- the elements of a list that was pushed to
pub pushed_at : {A : Type 0} (xs : List A) (y : A) (k : ℕ) (t : A) → slice_get (xs ++ y ∷ []) k ≡ Some t → (slice_get xs k ≡ Some t) ⊎ ((k ≡ length xs) × (t ≡ y))
pushed_at [] y zero t at = inr (refl, cc)
pushed_at [] y (suc k) t at = let no' : ⊥ = cc in absurd no'
pushed_at (x ∷ xs) y zero t at = inl at
pushed_at (x ∷ xs) y (suc k) t at = by (pushed_at xs y k t at)
  where
    by : (slice_get xs k ≡ Some t) ⊎ ((k ≡ length xs) × (t ≡ y)) → (slice_get xs k ≡ Some t) ⊎ ((suc k ≡ length (x ∷ xs)) × (t ≡ y))
    by (inl h) = inl h
    by (inr h) = inr (omega (arith, h.0), h.1)

-- a list is what stands before an element, that element, and what stands after it
pub split : {A : Type 0} (xs : List A) (i : ℕ) (x : A) → slice_get xs i ≡ Some x → (others : List A) × (xs ≡ take i xs ++ x ∷ others)
split [] i x at = let no' : ⊥ = cc in absurd no'
split (y ∷ ys) zero x at = (ys, ap (λ y. y ∷ ys) cc)
split (y ∷ ys) (suc i) x at = let rest = split ys i x at in (rest.0, ap (λ ys. y ∷ ys) rest.1)

-- ---- names that are new

bytes_turned : (x y : List ℕ) → bytes_eq x y ≡ bytes_eq y x
bytes_turned x y =
    let one = bytes_eq-Decides x y in
    let two = bytes_eq-Decides y x in
    same_from_decides (bytes_eq x y) (bytes_eq y x) one ((λ e. sym (two.0 e)), (λ e. two.1 (sym e)))

-- what a module that isn't there exports
none_exported : (is : List Interface) (name : List ℕ) → is_among (map (λ (i : Interface). i.name) is) name ≡ false → exports_of is name ≡ []
none_exported [] name none = refl
none_exported (i ∷ is) name none = by (bytes_eq i.name name) (bytes_turned i.name name) (none_exported is name) none
  where
    by : (b : Bool) → b ≡ bytes_eq name i.name → (is_among (map (λ (i : Interface). i.name) is) name ≡ false → exports_of is name ≡ [])
        → (bytes_eq name i.name || is_among (map (λ (i : Interface). i.name) is) name) ≡ false
        → flat_map (λ (i : Interface). i.entities) (if b then i ∷ filter (λ (i : Interface). bytes_eq i.name name) is else filter (λ (i : Interface). bytes_eq i.name name) is) ≡ []
    by true same later none = absurd (true≢false (ap (λ b. b || is_among (map (λ (i : Interface). i.name) is) name) same ∙ none))
    by false same later none = later (ap (λ b. b || is_among (map (λ (i : Interface). i.name) is) name) same ∙ none)

named_as : (before : List Interface) (ms : List Named) → map (λ (i : Interface). i.name) (interfaces before ms) ≡ map (λ (i : Interface). i.name) before ++ map (λ (m : Named). m.name) ms
named_as before [] = sym (append-nil (map (λ (i : Interface). i.name) before))
named_as before (m ∷ ms) =
    named_as (before ++ interface before m ∷ []) ms
    ∙ ap (λ names. names ++ map (λ (m : Named). m.name) ms) (map-append (λ (i : Interface). i.name) before (interface before m ∷ []))
    ∙ append_assoc (map (λ (i : Interface). i.name) before) (m.name ∷ []) (map (λ (m : Named). m.name) ms)

new_at : (before : List (List ℕ)) (ms : List Named) (i : ℕ) (m : Named) → AllNew before ms → slice_get ms i ≡ Some m → is_among (before ++ map (λ (m : Named). m.name) (take i ms)) m.name ≡ false
new_at before [] i m new at = let no' : ⊥ = cc in absurd no'
new_at before (x ∷ ms) zero m new at =
    let same : x ≡ m = cc in
    subst (λ (m : Named). is_among (before ++ []) m.name ≡ false) same (ap (λ names. is_among names x.name) (append-nil before) ∙ new.0)
new_at before (x ∷ ms) (suc i) m new at =
    ap (λ names. is_among names m.name) (sym (append_assoc before (x.name ∷ []) (map (λ (m : Named). m.name) (take i ms)))) ∙ new_at (before ++ x.name ∷ []) ms i m new.1 at

pub fresh : (ms : List Named) (i : ℕ) (m : Named) → AllNew [] ms → slice_get ms i ≡ Some m → exports_of (interfaces [] (take i ms)) m.name ≡ []
fresh ms i m new at =
    none_exported (interfaces [] (take i ms)) m.name (ap (λ names. is_among names m.name) (named_as [] (take i ms)) ∙ new_at [] ms i m new at)

-- ---- what a module exports, among all modules

still_among : (known more : List (List ℕ)) (text : List ℕ) → is_among known text ≡ true → is_among (known ++ more) text ≡ true
still_among [] more text there = absurd (true≢false (sym there))
still_among (x ∷ known) more text there = by (bytes_eq text x) there (still_among known more text)
  where
    by : (b : Bool) → (b || is_among known text) ≡ true → (is_among known text ≡ true → is_among (known ++ more) text ≡ true) → (b || is_among (known ++ more) text) ≡ true
    by true there rest = refl
    by false there rest = rest there

last_among : (known : List (List ℕ)) (text : List ℕ) → is_among (known ++ text ∷ []) text ≡ true
last_among [] text = ap (λ b. b || false) ((bytes_eq-Decides text text).1 refl)
last_among (x ∷ known) text = by (bytes_eq text x) (last_among known text)
  where
    by : (b : Bool) → is_among (known ++ text ∷ []) text ≡ true → (b || is_among (known ++ text ∷ []) text) ≡ true
    by true rest = refl
    by false rest = rest

other_name : (known : List (List ℕ)) (name text : List ℕ) → is_among known text ≡ true → is_among known name ≡ false → bytes_eq name text ≡ false
other_name known name text there new = by (bytes_eq name text) refl
  where
    by : (b : Bool) → bytes_eq name text ≡ b → b ≡ false
    by false is = refl
    by true is = absurd (true≢false (sym there ∙ ap (is_among known) (sym ((bytes_eq-Decides name text).0 is)) ∙ new))

-- modules after others add nothing to what those export
later_add_none : (known : List (List ℕ)) (before : List Interface) (ms : List Named) (text : List ℕ) → AllNew known ms → is_among known text ≡ true
    → exports_of (interfaces before ms) text ≡ exports_of before text
later_add_none known before [] text new there = refl
later_add_none known before (m ∷ ms) text new there =
    later_add_none (known ++ m.name ∷ []) (before ++ interface before m ∷ []) ms text new.1 (still_among known (m.name ∷ []) text there)
    ∙ exports_more before (interface before m) text
    ∙ ap (λ b. exports_of before text ++ (if b then exported before m else [])) (other_name known m.name text there new.0)
    ∙ append-nil (exports_of before text)

exported_at : (known : List (List ℕ)) (before : List Interface) (ms : List Named) (k : ℕ) (m : Named) → AllNew known ms → slice_get ms k ≡ Some m
    → exports_of (interfaces before (take k ms)) m.name ≡ [] → exports_of (interfaces before ms) m.name ≡ exported (interfaces before (take k ms)) m
exported_at known before [] k m new at none = let no' : ⊥ = cc in absurd no'
exported_at known before (x ∷ ms) zero m new at none =
    let same : x ≡ m = cc in
    subst (λ (m : Named). exports_of before m.name ≡ [] → exports_of (interfaces before (x ∷ ms)) m.name ≡ exported before m) same first none
  where
    first : exports_of before x.name ≡ [] → exports_of (interfaces before (x ∷ ms)) x.name ≡ exported before x
    first none =
        later_add_none (known ++ x.name ∷ []) (before ++ interface before x ∷ []) ms x.name new.1 (last_among known x.name)
        ∙ exports_more before (interface before x) x.name
        ∙ ap (λ b. exports_of before x.name ++ (if b then exported before x else [])) ((bytes_eq-Decides x.name x.name).1 refl)
        ∙ ap (λ es. es ++ exported before x) none
exported_at known before (x ∷ ms) (suc k) m new at none = exported_at (known ++ x.name ∷ []) (before ++ interface before x ∷ []) ms k m new.1 at none

pub exports_are : (ms : List Named) (k : ℕ) (m : Named) → AllNew [] ms → slice_get ms k ≡ Some m → exports_of (interfaces [] ms) m.name ≡ exported (interfaces_before ms k) m
exports_are ms k m new at = exported_at [] [] ms k m new at (fresh ms k m new at)

-- ---- how far a loop has come

pub record Done (names : List (List ℕ)) (ms : List Named) (i : ℕ) (tables : List NameTable) (s : Interfaces) : Type 0 where
  pub counted : length tables ≡ i
  pub right : AreScoped [] (take i ms)
  pub added : AreInterfaces names (interfaces [] (take i ms)) s
  pub tells : (k : ℕ) (m : Named) (t : NameTable) → slice_get ms k ≡ Some m → slice_get tables k ≡ Some t → Tells names (scope (interfaces_before ms k) m) t

taken_more : (ms : List Named) (i : ℕ) (m : Named) → slice_get ms i ≡ Some m → take (i + 1) ms ≡ take i ms ++ m ∷ []
taken_more ms i m at = take_more ms i m (slice_get_within ms i m at) ∙ ap (λ m. take i ms ++ m ∷ []) (get_or_from_slice_get ms i m m at)

pub done_more : (names : List (List ℕ)) (ms : List Named) (i : ℕ) (m : Named) (tables new : List NameTable) (table : NameTable) (s after : Interfaces) → slice_get ms i ≡ Some m
    → IsRight names (interfaces [] (take i ms)) m table after → new ≡ tables ++ table ∷ [] → Done names ms i tables s → Done names ms (i + 1) new after
done_more names ms i m tables new table s after at right is done = record {
  counted = ap length is ∙ length_push tables table ∙ ap (λ n. n + 1) done.counted;
  right = subst (AreScoped []) (sym (taken_more ms i m at)) (scoped_more [] (take i ms) m done.right right.right);
  added = subst (λ (is : List Interface). AreInterfaces names is after) (sym (ap (interfaces []) (taken_more ms i m at) ∙ interfaces_more [] (take i ms) m)) right.added;
  tells = λ k n t there found. by k n t there (pushed_at tables table k t (subst (λ (ts : List NameTable). slice_get ts k ≡ Some t) is found));
}
  where
    by : (k : ℕ) (n : Named) (t : NameTable) → slice_get ms k ≡ Some n → (slice_get tables k ≡ Some t) ⊎ ((k ≡ length tables) × (t ≡ table)) → Tells names (scope (interfaces_before ms k) n) t
    by k n t there (inl old) = done.tells k n t there old
    by k n t there (inr last) =
        let here : k ≡ i = last.0 ∙ done.counted in
        let same : n ≡ m = same_Some n m (sym there ∙ ap (slice_get ms) here ∙ at) in
        subst (λ (t : NameTable). Tells names (scope (interfaces_before ms k) n) t) (sym last.1)
        (subst (λ (k : ℕ). Tells names (scope (interfaces_before ms k) n) table) (sym here) (subst (λ (n : Named). Tells names (scope (interfaces_before ms i) n) table) (sym same) right.tells))

pub done_wrong : (names : List (List ℕ)) (ms : List Named) (i : ℕ) (m : Named) (tables : List NameTable) (s : Interfaces) (name : List ℕ) (fault : Fault) → slice_get ms i ≡ Some m
    → Done names ms i tables s → IsWrongIn (interfaces [] (take i ms)) m name fault → IsWrong ms name fault
done_wrong names ms i m tables s name fault at done wrong =
    let parts = split ms i m at in
    record { right = take i ms; m = m; others = parts.0; among = parts.1; are_right = done.right; is_first = wrong.is_first; is_named = wrong.is_named }

pub none_done : (names : List (List ℕ)) (ms : List Named) (tables : List NameTable) (s : Interfaces) → tables ≡ [] → AreInterfaces names [] s → Done names ms 0 tables s
none_done names ms tables s none are = record {
  counted = ap length none;
  right = no_module [];
  added = are;
  tells = λ k m t there found. let no' : ⊥ = none_at k m t (subst (λ (ts : List NameTable). slice_get ts k ≡ Some t) none found) in absurd no';
}
  where
    none_at : (k : ℕ) (m : Named) (t : NameTable) → slice_get {X = NameTable} [] k ≡ Some t → ⊥
    none_at k m t found = cc

-- ---- one module

-- its first fault is told
pub module_is_wrong : (names : List (List ℕ)) (before : List Interface) (m : Module) (f : told.Fault) (result : ScopeFault) → IsFirstIf m.name names (faults before (module_of names m)) (Some f)
    → result ≡ wrong_at f → TellsFault names (IsWrongIn before (module_of names m)) result
module_is_wrong names before m f result found is =
    subst (TellsFault names (IsWrongIn before (module_of names m))) (sym is)
    (scoping.told names (IsWrongIn before (module_of names m)) f.wrong f.place f.name (record { is_named = ap (text_of names) found.0.place; is_first = found.1 }))

-- without a fault its scope is told and its exports are added
pub module_is_right : (names : List (List ℕ)) (before : List Interface) (m : Module) (s : Scoped) (table : NameTable) (after : Interfaces) → faults before (module_of names m) ≡ [] → IsScoped names before m s
    → table ≡ s.scope.table → AreInterfaces names (before ++ interface before (module_of names m) ∷ []) after → IsRight names before (module_of names m) table after
module_is_right names before m s table after right scoped same added = record {
  right = right;
  tells = subst (λ (t : NameTable). Tells names (scope before (module_of names m)) t) (sym same) scoped.bindings.tells;
  added = added;
}

-- ---- a loop over modules

module_at : (names : List (List ℕ)) (modules : List Module) (i : ℕ) (m : Module) → i < length modules → m ≡ get_or modules i m → slice_get (modules_of names modules) i ≡ Some (module_of names m)
module_at names modules i m below is = slice_get-map (module_of names) modules i ∙ ap (option_map (module_of names)) (slice_get_read modules (length modules) i m refl below is)

pub modules_more : (names : List (List ℕ)) (modules : List Module) (i : ℕ) (m : Module) (tables new : List NameTable) (table : NameTable) (s after : Interfaces) → AreOrdered (modules_of names modules) → i < length modules
    → m ≡ get_or modules i m → ((before : List Interface) → exports_of before (text_of names m.name) ≡ [] → AreInterfaces names before s → IsRight names before (module_of names m) table after)
    → new ≡ tables ++ table ∷ [] → Done names (modules_of names modules) i tables s → Done names (modules_of names modules) (i + 1) new after
modules_more names modules i m tables new table s after ordered below is right pushed done =
    let at = module_at names modules i m below is in
    done_more names (modules_of names modules) i (module_of names m) tables new table s after at
    (right (interfaces [] (take i (modules_of names modules))) (fresh (modules_of names modules) i (module_of names m) ordered.differ at) done.added) pushed done

kept : (names : List (List ℕ)) (P Q : List ℕ → Fault → Type 0) → ((name : List ℕ) (fault : Fault) → P name fault → Q name fault) → (r : ScopeFault) → TellsFault names P r → TellsFault names Q r
kept names P Q more (answer.NotExported place id) holds = more (text_of names place.«module») (fault_at names kind.NotExported place id) holds
kept names P Q more (answer.UnknownName place id) holds = more (text_of names place.«module») (fault_at names kind.UnknownName place id) holds
kept names P Q more (answer.Ambiguous place id) holds = more (text_of names place.«module») (fault_at names kind.Ambiguous place id) holds
kept names P Q more (answer.Duplicate place id) holds = more (text_of names place.«module») (fault_at names kind.Duplicate place id) holds
kept names P Q more answer.NoMemory holds = tt

passed_on : {A : Type 0} (P : ScopeFault → Type 0) (result : Result A ScopeFault) (fault : ScopeFault) → IsErrAnd result (λ e. e ≡ fault) → P fault → IfErr result P
passed_on P (Ok a) fault is holds = absurd is
passed_on P (Err e) fault is holds = subst P (sym is) holds

pub modules_wrong : {A : Type 0} (names : List (List ℕ)) (modules : List Module) (i : ℕ) (m : Module) (tables : List NameTable) (s : Interfaces) (result : Result A ScopeFault) (fault : ScopeFault) → i < length modules
    → m ≡ get_or modules i m → ((before : List Interface) → AreInterfaces names before s → TellsFault names (IsWrongIn before (module_of names m)) fault) → Done names (modules_of names modules) i tables s
    → IsErrAnd result (λ e. e ≡ fault) → IfErr result (TellsFault names (IsWrong (modules_of names modules)))
modules_wrong names modules i m tables s result fault below is wrong done same =
    let ms = modules_of names modules in
    let at = module_at names modules i m below is in
    let before = interfaces [] (take i ms) in
    passed_on (TellsFault names (IsWrong ms)) result fault same
    (kept names (IsWrongIn before (module_of names m)) (IsWrong ms) (λ name found first. done_wrong names ms i (module_of names m) tables s name found at done first) fault (wrong before done.added))

pub modules_known : {A : Type 0} (names : List (List ℕ)) (modules : List Module) (i : ℕ) (tables : List NameTable) (s : Interfaces) (result : Result A ScopeFault) (fault : ScopeFault)
    → ((before : List Interface) → AreInterfaces names before s → FaultIsKnown names fault) → Done names (modules_of names modules) i tables s → IsErrAnd result (λ e. e ≡ fault)
    → IfErr result (FaultIsKnown names)
modules_known names modules i tables s result fault known done same =
    passed_on (FaultIsKnown names) result fault same (known (interfaces [] (take i (modules_of names modules))) done.added)

pub all_scoped : (names : List (List ℕ)) (modules : List Module) (i : ℕ) (tables : List NameTable) (s : Interfaces) → length modules ≤ i → Done names (modules_of names modules) i tables s → AreScoped [] (modules_of names modules)
all_scoped names modules i tables s past done =
    subst (AreScoped []) (take_all i (modules_of names modules) (subst (λ n. n ≤ i) (sym (length-map modules (module_of names))) past)) done.right

pub all_told : (names : List (List ℕ)) (modules : List Module) (i : ℕ) (scopes : Scopes) → AreOrdered (modules_of names modules) → length modules ≤ i → i ≤ length modules
    → Done names (modules_of names modules) i scopes.tables.items scopes.interfaces → AreScopes names (modules_of names modules) scopes
all_told names modules i scopes ordered past within done =
    let last : i ≡ length modules = omega (arith, past, within) in
    let ms = modules_of names modules in
    record {
      each = done.counted ∙ last ∙ sym (length-map modules (module_of names));
      tells = done.tells;
      differ = ordered.differ;
      exports = subst (λ (ms : List Named). AreInterfaces names (interfaces [] ms) scopes.interfaces) (take_all i ms (subst (λ n. n ≤ i) (sym (length-map modules (module_of names))) past)) done.added;
    }

-- no fault where none is told
pub none_told : (found : Option told.Fault) → ((f : told.Fault) → found ≡ Some f → ⊥) → found ≡ None
none_told None never = refl
none_told (Some f) never = absurd (never f refl)
