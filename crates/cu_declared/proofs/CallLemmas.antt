-- The first fault of a module and of a goal, and the answers for it.
use Rattle.std.proofs.Common.{◌≡◌, ◌∙◌, ◌⊎◌, inl, inr, ◌<◌, ◌≤◌, ◌+◌, ℕ, zero, suc, List, [], ◌∷◌, ◌++◌, Option, None, Some, length, drop, get_or, map, refl, sym, ap, ap₂, subst, arith}
use Rattle.std.proofs.lemmas.List.{length-map}
use Rattle.std.proofs.lemmas.List.Elements.{All-get_or, All-nil}
use Rattle.std.proofs.lemmas.Option.{slice_get_read}
use Rattle.std.specs.List.{All}
use Rattle.std.specs.Prelude.{codes, slice_get, slice_index_or}
use Rattle.cu_cycles.proofs.Lists.{get_suffix, get_prefix}
use Rattle.cu_cycles.proofs.Places.{prefix_or_suffix, one_element, within}
use Rattle.cu_lex.specs.Reading.{position_of}
use Rattle.cu_modules.specs.declared.modules.Module.{Module}
use Rattle.cu_modules.specs.declared.scopes.Scopes.{Scopes}
use Rattle.cu_modules.specs.Ordering.{module_of, modules_of}
use Rattle.cu_modules.specs.Reading.{HasModule}
use Rattle.cu_modules.specs.ScopeAnswers.{AreScopes}
use Rattle.cu_modules.specs.Scopes.{Named}
use Rattle.cu_names.specs.declared.names.NameId.{NameId}
use Rattle.cu_names.specs.declared.place.Place.{Place}
use Rattle.cu_names.specs.Texts.{AllDiffer, IsKnown, text_of}
use Rattle.cu_syntax.specs.declared.expressions.Expression.{Expression}
use Rattle.cu_syntax.specs.ExpressionMeaning.{expression_meaning}
use Rattle.cu_syntax.specs.Syntax.{Goal}
use Rattle.cu_declared.specs.declared.found.Fault as code
use Rattle.cu_declared.specs.declared.found.Wrong.{Wrong}
use Rattle.cu_declared.specs.declared.found.Wrong.TheVariants as wrong
use Rattle.cu_declared.specs.Inside.Answers.{answer_at, answer_of}
use Rattle.cu_declared.specs.Inside.Arities.{arity_faults}
use Rattle.cu_declared.specs.Inside.Gathered.{Adds, UseIsOf, in_expression, uses_meaning}
use Rattle.cu_declared.specs.Inside.Synonyms.{AreCycles, AreKept, AreSynonyms}
use Rattle.cu_declared.specs.SynonymCycles.{Synonym, synonyms_by, synonyms_in}
use Rattle.cu_declared.specs.declared.first_fault.FirstFault.{FirstFault}
use Rattle.cu_declared.specs.declared.found.TypeUse as uses
use Rattle.cu_declared.specs.declared.synonyms.Synonym as synonyms
use Rattle.cu_syntax.specs.declared.text.Module as syntax
use Rattle.cu_syntax.specs.Owners.{ItemIsOf, ModuleIsOf}
use Rattle.cu_declared.specs.Inside.Told.{AreTold, IsAt, IsFirstIf, IsModule, IsModuleFirst, Told, World, WrongIsKnown, bindings_of, fault_meaning, wrong_meaning}
use Rattle.cu_declared.specs.Parameters.{Numbered, all_parameters, built_in_parameters, numbered, parameters_by, parameters_in}
use Rattle.cu_declared.specs.Telling.{FaultIsKnown, TellsFault, wrong_at}
use Rattle.cu_declared.specs.TypeFaults as faults
use Rattle.cu_declared.specs.TypeFaults.{AreRight, Fault, IsArityFault, IsGoalFault, IsGoalRight, IsGoalWrong, IsModuleFault, IsRight, IsWrong, is_before, scope_at}
use Rattle.cu_declared.specs.TypeUses.{TypeUse, expression_uses, goal_uses, items_uses}
use Rattle.cu_declared.specs.declared.numbers.Numbers.{Numbers}
use Rattle.cu_declared.specs.Inside.Items.{items_parameters, items_synonyms}
use Rattle.cu_declared.specs.Inside.Numbers.{Gains}
use Rattle.cu_modules.specs.BuiltInEntities.{prelude_name}
use Rattle.cu_syntax.specs.Answer.{items_meaning, module_meaning}
use Rattle.cu_syntax.specs.declared.text.Item.{Item}
use Rattle.std.proofs.lemmas.List.Concat.{flat_map-cons}
use Rattle.std.specs.List.{flat_map}
use Rattle.cu_declared.proofs.AddsLemmas.{prefix}
use Rattle.cu_declared.proofs.ArityLemmas.{arity_is}
use Rattle.cu_declared.proofs.ItemLemmas.{parameters_are, synonyms_are}
use Rattle.cu_declared.proofs.NumberLemmas.{gains_as, gains_both, gains_end}

-- ---- the first fault of a module

abbrev pub module_faults : World → List Fault → List Fault
module_faults w cs = ([] ++ arity_faults (all_parameters w.modules) (bindings_of w) (items_uses w.m.syntax.items)) ++ cs

listed : (w : World) (cs : List Fault) (f : Fault) → AreCycles w cs → IsModuleFault w.modules w.number w.m f → (k : ℕ) × (slice_get (module_faults w cs) k ≡ Some f)
listed w cs f are (inl is) =
    let found = (arity_is w.modules (bindings_of w) (items_uses w.m.syntax.items) f).0 is in
    (found.0, get_prefix (arity_faults (all_parameters w.modules) (bindings_of w) (items_uses w.m.syntax.items)) cs found.0 f found.1)
listed w cs f are (inr is) =
    let found = are.all f is in (
      length (arity_faults (all_parameters w.modules) (bindings_of w) (items_uses w.m.syntax.items)) + found.0,
      get_suffix (arity_faults (all_parameters w.modules) (bindings_of w) (items_uses w.m.syntax.items)) cs found.0 ∙ found.1,
    )

of_module : (w : World) (cs : List Fault) (k : ℕ) (f : Fault) → AreCycles w cs → slice_get (module_faults w cs) k ≡ Some f → IsModuleFault w.modules w.number w.m f
of_module w cs k f are e =
    elim (prefix_or_suffix (arity_faults (all_parameters w.modules) (bindings_of w) (items_uses w.m.syntax.items)) cs k f e) [
      | inl h ↦ inl ((arity_is w.modules (bindings_of w) (items_uses w.m.syntax.items) f).1 (k, h))
      | inr h ↦ inr (are.each h.0 f h.2)
    ]

no_element : {A : Type 0} (xs : List A) (k : ℕ) (x : A) → xs ≡ [] → slice_get xs k ≡ Some x → ⊥
no_element xs k x empty e = let no : slice_get [] k ≡ Some x = subst (λ ys. slice_get ys k ≡ Some x) empty e in cc

pub module_first : (w : World) (cs : List Fault) (found : Option code.Fault) → AreCycles w cs → IsFirstIf w.owner w.names (module_faults w cs) found → IsModuleFirst w found
module_first w cs None are none = λ f is. let there = listed w cs f are is in no_element (module_faults w cs) there.0 f none there.1
module_first w cs (Some f) are is = (
  is.0,
  of_module w cs is.1.place (fault_meaning w.names f) are is.1.listed,
  λ g is_fault. let there = listed w cs g are is_fault in is.1.first there.0 g there.1,
)

-- ---- the modules

get_map : {A B : Type 0} (f : A → B) (xs : List A) (k : ℕ) (x : A) → slice_get xs k ≡ Some x → slice_get (map f xs) k ≡ Some (f x)
get_map f [] k x h = let no : ⊥ = cc in absurd no
get_map f (y ∷ xs) zero x h = let same : y ≡ x = cc in ap (λ z. Some (f z)) same
get_map f (y ∷ xs) (suc k) x h = get_map f xs k x h

abbrev pub world : List (List ℕ) → List Module → ℕ → Module → World
world names modules number m = record { owner = m.name; names = names; modules = modules_of names modules; number = number; m = module_of names m }

pub is_module : (names : List (List ℕ)) (modules : List Module) (number : ℕ) (m : Module) (scopes : Scopes) → AllDiffer names → AreScopes names (modules_of names modules) scopes
    → All (HasModule names) modules → number < length modules → m ≡ get_or modules number m → IsModule (world names modules number m) number m scopes
is_module names modules number m scopes differ are all within_modules is = record {
  is_at = record {
    differ = differ;
    scopes = are;
    number_is = refl;
    is_there = get_map (module_of names) modules number m (slice_get_read modules (length modules) number m refl within_modules is);
  };
  owner_is = refl;
  module_is = refl;
  has = subst (HasModule names) (sym is) (All-get_or (HasModule names) modules number m within_modules all);
}

-- the modules before a number have no fault
abbrev pub RightBefore : List Named → ℕ → Type 0
RightBefore modules number = (k : ℕ) (m : Named) → k < number → slice_get modules k ≡ Some m → IsRight modules k m

pub right_none : (modules : List Named) → RightBefore modules 0
right_none modules k m less at = absurd (omega arith)

less_or_same : (k n : ℕ) → k < n + 1 → (k ≡ n) ⊎ (k < n)
less_or_same zero zero h = inl refl
less_or_same zero (suc n) h = inr (omega arith)
less_or_same (suc k) zero h = absurd (omega arith)
less_or_same (suc k) (suc n) h = elim (less_or_same k n (omega arith)) [ inl e ↦ inl (ap suc e) | inr l ↦ inr (omega arith) ]

pub right_more : (names : List (List ℕ)) (modules : List Module) (number : ℕ) (m : Module) (found : Option code.Fault) → slice_get (modules_of names modules) number ≡ Some (module_of names m) → found ≡ None
    → IsModuleFirst (world names modules number m) found → RightBefore (modules_of names modules) number → RightBefore (modules_of names modules) (number + 1)
right_more names modules number m found at none first before k other less there =
    elim (less_or_same k number less) [
      | inl same ↦ here same
      | inr earlier ↦ before k other earlier there
    ]
  where
    here : k ≡ number → IsRight (modules_of names modules) k other
    here same =
        let other_is : other ≡ module_of names m = one_element (modules_of names modules) number other (module_of names m) (subst (λ (n : ℕ). slice_get (modules_of names modules) n ≡ Some other) same there) at in
        let right = subst (IsModuleFirst (world names modules number m)) none first in
        subst (λ (n : ℕ). IsRight (modules_of names modules) n other) (sym same)
        (subst (λ (x : Named). IsRight (modules_of names modules) number x) (sym other_is) (record { right = right }))

pub all_right : (names : List (List ℕ)) (modules : List Module) (number : ℕ) → length modules ≤ number → RightBefore (modules_of names modules) number → AreRight (modules_of names modules)
all_right names modules number past before = record {
  each = λ k m at.
      let low : k < length (modules_of names modules) = within (modules_of names modules) k m at in
      let same : length (modules_of names modules) ≡ length modules = length-map modules (module_of names) in
      before k m (omega arith) at;
}

-- ---- answers

told_at : (names : List (List ℕ)) (P : List ℕ → Fault → Type 0) (place : Place) (w : Wrong) → P (text_of names place.«module») (record { wrong = wrong_meaning names w; at = position_of place })
    → TellsFault names P (answer_at place w)
told_at names P place wrong.TypeArity holds = holds
told_at names P place (wrong.SynonymCycle id) holds = (text_of names place.«module», position_of place, holds)

known_at : (names : List (List ℕ)) (place : Place) (w : Wrong) → place.«module».0 < length names → WrongIsKnown names w → FaultIsKnown names (answer_at place w)
known_at names place wrong.TypeArity known of = known
known_at names place (wrong.SynonymCycle id) known of = of

pub wrong_told : (names : List (List ℕ)) (modules : List Module) (number : ℕ) (m : Module) (found : Option code.Fault) (f : code.Fault) → slice_get (modules_of names modules) number ≡ Some (module_of names m)
    → found ≡ Some f → IsModuleFirst (world names modules number m) found → RightBefore (modules_of names modules) number → TellsFault names (IsWrong (modules_of names modules)) (answer_of f)
wrong_told names modules number m found f at some first before =
    let is = subst (IsModuleFirst (world names modules number m)) some first in
    told_at names (IsWrong (modules_of names modules)) f.place f.wrong
    (record {
      number = number;
      m = module_of names m;
      is_there = at;
      before = before;
      is_fault = is.1;
      is_first = is.2;
      is_named = ap (text_of names) is.0.place;
    })

pub wrong_known : (names : List (List ℕ)) (modules : List Module) (number : ℕ) (m : Module) (found : Option code.Fault) (f : code.Fault) → HasModule names m
    → found ≡ Some f → IsModuleFirst (world names modules number m) found → FaultIsKnown names (answer_of f)
wrong_known names modules number m found f has some first =
    let is = subst (IsModuleFirst (world names modules number m)) some first in
    known_at names f.place f.wrong (subst (λ (o : NameId). o.0 < length names) (sym is.0.place) has.known) is.0.name

-- ---- goals

pub goal_at : (names : List (List ℕ)) (modules : List Module) (root : ℕ) (scopes : Scopes) (owner : NameId) → AllDiffer names → AreScopes names (modules_of names modules) scopes → root < length modules
    → (m : Module) × (slice_get (modules_of names modules) root ≡ Some (module_of names m))
    × IsAt (record { owner = owner; names = names; modules = modules_of names modules; number = root; m = module_of names m }) root scopes
goal_at names modules root scopes owner differ are low =
    let found = there modules root low in
    let at = get_map (module_of names) modules root found.0 found.1 in
    (found.0, at, record { differ = differ; scopes = are; number_is = refl; is_there = at })
  where
    there : {A : Type 0} (xs : List A) (k : ℕ) → k < length xs → (x : A) × (slice_get xs k ≡ Some x)
    there [] k h = absurd (omega arith)
    there (y ∷ xs) zero h = (y, refl)
    there (y ∷ xs) (suc k) h = there xs k (omega arith)

abbrev pub goal_faults : World → Goal → List Fault
goal_faults w goal = [] ++ arity_faults (all_parameters w.modules) (bindings_of w) (goal_uses goal)

pub goal_right : (w : World) (goal : Goal) (found : Option code.Fault) → slice_get w.modules w.number ≡ Some w.m → found ≡ None → IsFirstIf w.owner w.names (goal_faults w goal) found
    → IsGoalRight w.modules w.number goal
goal_right w goal found at none first = record {
  right = λ m f there is.
      let same : m ≡ w.m = one_element w.modules w.number m w.m there at in
      let told = (arity_is w.modules (bindings_of w) (goal_uses goal) f).0
      (subst (λ (x : Named). IsArityFault w.modules (scope_at w.modules w.number x) (goal_uses goal) f) same is) in
      no_element (goal_faults w goal) told.0 f (subst (IsFirstIf w.owner w.names (goal_faults w goal)) none first) told.1;
}

pub goal_wrong : (w : World) (goal : Goal) (found : Option code.Fault) (f : code.Fault) → slice_get w.modules w.number ≡ Some w.m → found ≡ Some f → IsFirstIf w.owner w.names (goal_faults w goal) found
    → (text_of w.names f.place.«module» ≡ text_of w.names w.owner) × IsGoalWrong w.modules w.number goal (wrong_at faults.TypeArity (position_of f.place))
goal_wrong w goal found f at some first =
    let is = subst (IsFirstIf w.owner w.names (goal_faults w goal)) some first in
    let fault = (arity_is w.modules (bindings_of w) (goal_uses goal) (fault_meaning w.names f)).1 (is.1.place, is.1.listed) in
    let arity : fault_meaning w.names f ≡ wrong_at faults.TypeArity (position_of f.place) =
    ap (λ (x : Fault). wrong_at x.wrong (position_of f.place)) fault.is in (
      ap (text_of w.names) is.0.place,
      subst (IsGoalWrong w.modules w.number goal) arity
          (record {
            m = w.m;
            is_there = at;
            is_fault = fault;
            is_first = λ g other. let told = (arity_is w.modules (bindings_of w) (goal_uses goal) g).0 other in is.1.first told.0 g told.1;
          }),
    )

pub goal_known : (w : World) (goal : Goal) (found : Option code.Fault) (f : code.Fault) → IsKnown w.names w.owner → found ≡ Some f → IsFirstIf w.owner w.names (goal_faults w goal) found
    → IsKnown w.names f.place.«module»
goal_known w goal found f known some first =
    let is = subst (IsFirstIf w.owner w.names (goal_faults w goal)) some first in
    subst (IsKnown w.names) (sym is.0.place) known

-- ---- types that are built in

text_at : (names : List (List ℕ)) (k : ℕ) (t : List ℕ) → slice_get names k ≡ Some t → slice_index_or names k [] ≡ t
text_at [] k t e = let no : ⊥ = cc in absurd no
text_at (n ∷ names) zero t e = cc
text_at (n ∷ names) (suc k) t e = text_at names k t e

pub built_in_gained : (names : List (List ℕ)) (prelude int char : NameId) (a b c : Numbers) → slice_get names prelude.0 ≡ Some prelude_name → slice_get names int.0 ≡ Some (codes "Int") → slice_get names char.0 ≡ Some (codes "Char")
    → Gains names a (numbered (text_of names prelude) (text_of names int) 0 ∷ []) b → Gains names b (numbered (text_of names prelude) (text_of names char) 0 ∷ []) c → Gains names a built_in_parameters c
built_in_gained names prelude int char a b c prelude_is int_is char_is one two =
    let p = text_at names prelude.0 prelude_name prelude_is in
    gains_both
    (gains_as names a b (numbered (text_of names prelude) (text_of names int) 0 ∷ []) (numbered prelude_name (codes "Int") 0 ∷ [])
    (ap₂ (λ o n. numbered o n 0 ∷ []) p (text_at names int.0 (codes "Int") int_is)) one)
    (gains_as names b c (numbered (text_of names prelude) (text_of names char) 0 ∷ []) (numbered prelude_name (codes "Char") 0 ∷ [])
    (ap₂ (λ o n. numbered o n 0 ∷ []) p (text_at names char.0 (codes "Char") char_is)) two)

-- ---- parameters of modules

abbrev pub parameters_left : List (List ℕ) → List Module → List Numbered
parameters_left names ms = flat_map parameters_in (modules_of names ms)

pub parameters_prefix : (names : List (List ℕ)) (ms : List Module) (i : ℕ) (m : Module) (text : List Item) (a b c : Numbers) → m ≡ get_or ms i m → i < length ms
    → items_meaning names text ≡ (module_of names m).syntax.items → Gains names a (items_parameters names (text_of names m.name) text) b → Gains names b (parameters_left names (drop (i + 1) ms)) c
    → Gains names a (parameters_left names (drop i ms)) c
parameters_prefix names ms i m text a b c is within_ms meaning one rest =
    gains_as names a c (parameters_in (module_of names m) ++ parameters_left names (drop (i + 1) ms)) (parameters_left names (drop i ms))
    (prefix (parameters_left names) (λ x. parameters_in (module_of names x)) (λ x xs. flat_map-cons parameters_in (module_of names x) (modules_of names xs)) ms i m is within_ms)
    (gains_both (gains_as names a b (items_parameters names (text_of names m.name) text) (parameters_in (module_of names m))
    (parameters_are names (text_of names m.name) text ∙ ap (flat_map (parameters_by (text_of names m.name))) meaning) one) rest)

pub parameters_end : (names : List (List ℕ)) (ms : List Module) (i : ℕ) (a : Numbers) → length ms ≤ i → Gains names a (parameters_left names (drop i ms)) a
parameters_end names ms i a past = gains_end (parameters_left names) refl names ms i a past

-- ---- the text of a module

pub module_text : (w : World) (number : ℕ) (m : Module) (tables : Scopes) (found : syntax.Module) (text : List Item) → IsModule w number m tables → found ≡ m.syntax
    → ((names : List (List ℕ)) → items_meaning names text ≡ (module_meaning names found).items)
    → ((owner : NameId) (names : List (List ℕ)) → ModuleIsOf owner names found → All (ItemIsOf owner names) text)
    → (items_meaning w.names text ≡ w.m.syntax.items) × All (ItemIsOf w.owner w.names) text
module_text w number m tables found text is same meaning owned = (
  meaning w.names ∙ ap (λ (s : syntax.Module). (module_meaning w.names s).items) same ∙ ap (λ (x : Named). x.syntax.items) is.module_is,
  subst (λ (o : NameId). All (ItemIsOf o w.names) text) is.owner_is (owned m.name w.names (subst (λ (s : syntax.Module). ModuleIsOf m.name w.names s) (sym same) is.has.owned)),
)

pub synonyms_here : (w : World) (number : ℕ) (m : Module) (tables : Scopes) (text : List Item) (name : NameId) (found slice : List synonyms.Synonym) → IsModule w number m tables
    → items_meaning w.names text ≡ w.m.syntax.items → name ≡ m.name → AreKept w.owner w.names (items_synonyms w.names text) found → slice ≡ found → AreSynonyms w number name tables slice
synonyms_here w number m tables text name found slice is meaning named are sliced = record {
  is_at = is.is_at;
  owner_is = named ∙ is.owner_is;
  owner_known = subst (IsKnown w.names) (sym named) is.has.known;
  owner_text = ap (text_of w.names) named ∙ ap (λ (x : Named). x.name) is.module_is;
  are = subst (AreKept w.owner w.names (synonyms_in w.m)) (sym sliced)
      (subst (λ (ss : List Synonym). AreKept w.owner w.names ss found) (synonyms_are w.names text ∙ ap (flat_map synonyms_by) meaning) are);
}

pub uses_whole : (w : World) (added : List TypeUse) (a us slice : List uses.TypeUse) → a ≡ [] → Adds w.owner w.names a added us → slice ≡ us
    → (uses_meaning w.names slice ≡ added) × All (UseIsOf w.owner w.names) slice
uses_whole w added a us slice empty adds sliced =
    let from_none = subst (λ (xs : List uses.TypeUse). Adds w.owner w.names xs added us) empty adds in
    (ap (uses_meaning w.names) sliced ∙ from_none.adds, subst (All (UseIsOf w.owner w.names)) (sym sliced) (from_none.owned (All-nil (UseIsOf w.owner w.names))))

pub module_done : (w : World) (cs : List Fault) (us : List uses.TypeUse) (first0 first1 first2 : FirstFault) (found : Option code.Fault) → uses_meaning w.names us ≡ items_uses w.m.syntax.items
    → AreTold w.owner w.names [] first0 → Told w first0 (arity_faults (all_parameters w.modules) (bindings_of w) (uses_meaning w.names us)) first1
    → AreCycles w cs → Told w first1 cs first2 → ((faults : List Fault) → AreTold w.owner w.names faults first2 → IsFirstIf w.owner w.names faults found) → IsModuleFirst w found
module_done w cs us first0 first1 first2 found meaning none arities are cycles first =
    let told = subst (λ (xs : List TypeUse). Told w first0 (arity_faults (all_parameters w.modules) (bindings_of w) xs) first1) meaning arities in
    module_first w cs found are (first (module_faults w cs) (cycles.told ([] ++ arity_faults (all_parameters w.modules) (bindings_of w) (items_uses w.m.syntax.items)) (told.told [] none)))

pub goal_done : (w : World) (goal : Goal) (us : List uses.TypeUse) (first0 first1 : FirstFault) (found : Option code.Fault) → uses_meaning w.names us ≡ goal_uses goal
    → AreTold w.owner w.names [] first0 → Told w first0 (arity_faults (all_parameters w.modules) (bindings_of w) (uses_meaning w.names us)) first1
    → ((faults : List Fault) → AreTold w.owner w.names faults first1 → IsFirstIf w.owner w.names faults found) → IsFirstIf w.owner w.names (goal_faults w goal) found
goal_done w goal us first0 first1 found meaning none arities first =
    let told = subst (λ (xs : List TypeUse). Told w first0 (arity_faults (all_parameters w.modules) (bindings_of w) xs) first1) meaning arities in
    first (goal_faults w goal) (told.told [] none)

-- the uses in a goal's expression
pub goal_uses_are : (names : List (List ℕ)) (e : Expression) (goal : Goal) → expression_meaning names e ≡ goal.expression → in_expression names e ≡ goal_uses goal
unfolding in_expression
goal_uses_are names e goal meaning = ap expression_uses meaning
