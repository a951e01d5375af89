-- Modules that are built in stand before all others.
use Rattle.std.proofs.Common.{◌≡◌, ◌∙◌, ◌||◌, ℕ, Bool, true, false, not, List, [], ◌∷◌, ◌++◌, inl, inr, ◌⊎◌, Some, Option, Ok, Err, Result, refl, sym, ap, subst, append_assoc, append-nil, get_or, if◌then◌else◌}
use Rattle.std.proofs.lemmas.Bool.{both_ways}
use Rattle.std.proofs.lemmas.List.{map-append}
use Rattle.std.proofs.lemmas.List.Elements.{All-append, All-cons, All-filter, All-head, All-nil, All-push, All-tail, All-weaker}
use Rattle.std.proofs.lemmas.Slice.Eq.{bytes_eq-Decides}
use Rattle.std.specs.List.{All, filter}
use Rattle.std.specs.Prelude.{IfSome, slice_get}
use Rattle.std.specs.Str.{bytes_eq}
use Rattle.cu_io.specs.Holdings.{Holdings}
use Rattle.cu_names.proofs.Growth.{extends-trans, interned-extends, text_of-at}
use Rattle.cu_names.specs.declared.names.NameId.{NameId}
use Rattle.cu_names.specs.Texts.{Extends, interned, text_of}
use Rattle.cu_modules.specs.declared.fault.OrderFault.{OrderFault}
use Rattle.cu_modules.specs.declared.modules.Module.{Module}
use Rattle.cu_uses.specs.Binders.{is_among}
use Rattle.cu_modules.specs.Ordering.{AllAfter, AllNew, AreOrdered, IsOwn, Tells, module_of, modules_of, texts_of}
use Rattle.cu_modules.specs.declared.visits.Progress.{Progress}
use Rattle.cu_modules.specs.Reading.{HasModule}
use Rattle.cu_modules.specs.Scopes.{Named}
use Rattle.cu_modules.specs.Walk.{Refusal, Visits, Walk, built_in_first, import_names, is_built_in, refused, walked}
use Rattle.cu_modules.proofs.BuiltInLemmas.{own_imports}
use Rattle.cu_modules.proofs.LookUpLemmas.{some_map, tells_map}
use Rattle.cu_modules.proofs.StandsLemmas.{among_push, called}

-- ---- sorting

abbrev pub is_own : List (List ℕ) → Module → Bool
is_own names m = is_built_in (text_of names m.name)

abbrev pub is_other : List (List ℕ) → Module → Bool
is_other names m = not (is_own names m)

-- What is left, sorted after what was found, is the whole, sorted.
pub record Sorts (names : List (List ℕ)) (whole left built others : List Module) : Type 0 where
  pub known : All (HasModule names) left
  pub built_known : All (HasModule names) built
  pub others_known : All (HasModule names) others
  pub first : built ++ filter (is_own names) left ≡ filter (is_own names) whole
  pub second : others ++ filter (is_other names) left ≡ filter (is_other names) whole

pub sorts_first : (names : List (List ℕ)) (whole left built others : List Module) → left ≡ whole → built ≡ [] → others ≡ [] → All (HasModule names) whole → Sorts names whole left built others
sorts_first names whole left built others same none none' known = record {
  known = subst (All (HasModule names)) (sym same) known;
  built_known = subst (All (HasModule names)) (sym none) (All-nil (HasModule names));
  others_known = subst (All (HasModule names)) (sym none') (All-nil (HasModule names));
  first = (λ j. none j ++ filter (is_own names) (same j));
  second = (λ j. none' j ++ filter (is_other names) (same j));
}

pub sorts_own : (names : List (List ℕ)) (whole left later built after others : List Module) (m : Module) → left ≡ m ∷ later → is_own names m ≡ true → after ≡ built ++ m ∷ [] → Sorts names whole left built others
    → Sorts names whole later after others
sorts_own names whole left later built after others m here own is sorts = record {
  known = All-tail (HasModule names) m later (subst (All (HasModule names)) here sorts.known);
  built_known = subst (All (HasModule names)) (sym is) (All-push (HasModule names) built m sorts.built_known (All-head (HasModule names) m later (subst (All (HasModule names)) here sorts.known)));
  others_known = sorts.others_known;
  first =
      ap (λ built. built ++ filter (is_own names) later) is ∙ append_assoc built (m ∷ []) (filter (is_own names) later)
      ∙ ap (λ b. built ++ (if b then m ∷ filter (is_own names) later else filter (is_own names) later)) (sym own) ∙ ap (λ left. built ++ filter (is_own names) left) (sym here) ∙ sorts.first;
  second = ap (λ b. others ++ (if not b then m ∷ filter (is_other names) later else filter (is_other names) later)) (sym own) ∙ ap (λ left. others ++ filter (is_other names) left) (sym here) ∙ sorts.second;
}

pub sorts_other : (names : List (List ℕ)) (whole left later built others after : List Module) (m : Module) → left ≡ m ∷ later → is_own names m ≡ false → after ≡ others ++ m ∷ [] → Sorts names whole left built others
    → Sorts names whole later built after
sorts_other names whole left later built others after m here own is sorts = record {
  known = All-tail (HasModule names) m later (subst (All (HasModule names)) here sorts.known);
  built_known = sorts.built_known;
  others_known = subst (All (HasModule names)) (sym is) (All-push (HasModule names) others m sorts.others_known (All-head (HasModule names) m later (subst (All (HasModule names)) here sorts.known)));
  first = ap (λ b. built ++ (if b then m ∷ filter (is_own names) later else filter (is_own names) later)) (sym own) ∙ ap (λ left. built ++ filter (is_own names) left) (sym here) ∙ sorts.first;
  second =
      ap (λ others. others ++ filter (is_other names) later) is ∙ append_assoc others (m ∷ []) (filter (is_other names) later)
      ∙ ap (λ b. others ++ (if not b then m ∷ filter (is_other names) later else filter (is_other names) later)) (sym own) ∙ ap (λ left. others ++ filter (is_other names) left) (sym here) ∙ sorts.second;
}

filter_named : (names : List (List ℕ)) (test : Named → Bool) (ms : List Module) → modules_of names (filter (λ (m : Module). test (module_of names m)) ms) ≡ filter test (modules_of names ms)
filter_named names test [] = refl
filter_named names test (m ∷ ms) = by (test (module_of names m)) (filter_named names test ms)
  where
    by : (b : Bool) → modules_of names (filter (λ (m : Module). test (module_of names m)) ms) ≡ filter test (modules_of names ms)
        → modules_of names (if b then m ∷ filter (λ (m : Module). test (module_of names m)) ms else filter (λ (m : Module). test (module_of names m)) ms)
        ≡ (if b then module_of names m ∷ filter test (modules_of names ms) else filter test (modules_of names ms))
    by true later = ap (λ ms. module_of names m ∷ ms) later
    by false later = later

pub sorted : (names : List (List ℕ)) (whole left built others all : List Module) → left ≡ [] → Sorts names whole left built others → all ≡ built ++ others
    → modules_of names all ≡ built_in_first (modules_of names whole)
sorted names whole left built others all none sorts is =
    let first = sym (append-nil built) ∙ ap (λ left. built ++ filter (is_own names) left) (sym none) ∙ sorts.first in
    let second = sym (append-nil others) ∙ ap (λ left. others ++ filter (is_other names) left) (sym none) ∙ sorts.second in
    ap (modules_of names) (is ∙ (λ j. first j ++ second j)) ∙ map-append (module_of names) (filter (is_own names) whole) (filter (is_other names) whole)
    ∙ (λ j. filter_named names (λ (m : Named). is_built_in m.name) whole j ++ filter_named names (λ (m : Named). not (is_built_in m.name)) whole j)

pub sorted_known : (names : List (List ℕ)) (whole left built others all : List Module) → Sorts names whole left built others → all ≡ built ++ others → All (HasModule names) all
sorted_known names whole left built others all sorts is = subst (All (HasModule names)) (sym is) (All-append (HasModule names) built others sorts.built_known sorts.others_known)

-- one module that is moved from the beginning of a list to the end of another
pub moved : (built after left later : List Module) (m : Module) → after ≡ built ++ m ∷ [] → left ≡ m ∷ later → after ++ later ≡ built ++ left
moved built after left later m is here = ap (λ after. after ++ later) is ∙ append_assoc built (m ∷ []) later ∙ ap (λ left. built ++ left) (sym here)

-- ---- the walk

pub grown_twice : (old built first second last : List (List ℕ)) (text other : List ℕ) → Extends old built → first ≡ interned built text → second ≡ interned first other → Extends second last → Extends old last
grown_twice old built first second last text other grown is is' later =
    extends-trans grown (extends-trans (subst (Extends built) (sym is) (interned-extends built text)) (extends-trans (subst (Extends first) (sym is') (interned-extends first other)) later))

visit_from : (held : List ℕ → Option (List ℕ)) (names : List (List ℕ)) (p : Progress) (id : NameId) (root : List ℕ) (outcome : Result (List Named) Refusal) → p.path.items ≡ [] → p.done.items ≡ [] → slice_get names id.0 ≡ Some root
    → Visits held (texts_of names p.path.items) (modules_of names p.done.items) (text_of names id) outcome → Visits held [] [] root outcome
visit_from held names p id root outcome no_path none at h =
    subst (λ (path : List NameId). Visits held (texts_of names path) [] root outcome) no_path
    (subst (λ (done : List Module). Visits held (texts_of names p.path.items) (modules_of names done) root outcome) none
    (subst (λ (t : List ℕ). Visits held (texts_of names p.path.items) (modules_of names p.done.items) t outcome) (text_of-at names id root at) h))

pub walk_right : (names new : List (List ℕ)) (p : Progress) (id : NameId) (root : List ℕ) (o : Option Holdings) (dir : List ℕ) (done found : List Module) → p.path.items ≡ [] → p.done.items ≡ [] → slice_get names id.0 ≡ Some root
    → modules_of new found ≡ built_in_first (modules_of new done)
    → IfSome o (λ held. Visits (held.module_at dir) (texts_of names p.path.items) (modules_of names p.done.items) (text_of names id) (Ok (modules_of new done)))
    → IfSome o (λ held. Walk (held.module_at dir) root (Ok (modules_of new found)))
walk_right names new p id root o dir done found no_path none at is went =
    some_map (λ (held : Holdings). Visits (held.module_at dir) (texts_of names p.path.items) (modules_of names p.done.items) (text_of names id) (Ok (modules_of new done))) (λ (held : Holdings). Walk (held.module_at dir) root (Ok (modules_of new found)))
    (λ held h. subst (λ (ms : List Named). Walk (held.module_at dir) root (Ok ms)) (sym is)
    (walked (modules_of new done) (visit_from (held.module_at dir) names p id root (Ok (modules_of new done)) no_path none at h))) o went

pub walk_wrong : (names new : List (List ℕ)) (p : Progress) (id : NameId) (root : List ℕ) (o : Option Holdings) (dir : List ℕ) (fault : OrderFault) → p.path.items ≡ [] → p.done.items ≡ [] → slice_get names id.0 ≡ Some root
    → IfSome o (λ held. Tells new (λ refusal. Visits (held.module_at dir) (texts_of names p.path.items) (modules_of names p.done.items) (text_of names id) (Err refusal)) fault)
    → IfSome o (λ held. Tells new (λ refusal. Walk (held.module_at dir) root (Err refusal)) fault)
walk_wrong names new p id root o dir fault no_path none at told =
    some_map (λ (held : Holdings). Tells new (λ refusal. Visits (held.module_at dir) (texts_of names p.path.items) (modules_of names p.done.items) (text_of names id) (Err refusal)) fault)
    (λ (held : Holdings). Tells new (λ refusal. Walk (held.module_at dir) root (Err refusal)) fault)
    (λ held. tells_map new (λ refusal. Visits (held.module_at dir) (texts_of names p.path.items) (modules_of names p.done.items) (text_of names id) (Err refusal)) (λ refusal. Walk (held.module_at dir) root (Err refusal))
    (λ refusal h. refused refusal (visit_from (held.module_at dir) names p id root (Err refusal) no_path none at h)) fault) o told

-- ---- the modules that are built in, before all others

either : (a b : Bool) → (a || b) ≡ true → (a ≡ true) ⊎ (b ≡ true)
either true b e = inl refl
either false b e = inr e

or_true : (b : Bool) → (b || true) ≡ true
or_true true = refl
or_true false = refl

-- names that are met in one list and in another after which the same name comes
among_same : (xs ys : List (List ℕ)) (name text : List ℕ) → (is_among xs text ≡ false → is_among ys text ≡ false) → is_among (xs ++ name ∷ []) text ≡ false → is_among (ys ++ name ∷ []) text ≡ false
among_same xs ys name text go h = by (is_among xs text) refl (sym (among_push xs name text) ∙ h)
  where
    by : (b : Bool) → is_among xs text ≡ b → (is_among xs text || bytes_eq text name) ≡ false → is_among (ys ++ name ∷ []) text ≡ false
    by true e f = absurd (both_ways (is_among xs text || bytes_eq text name) f (ap (λ b. b || bytes_eq text name) e))
    by false e f = among_push ys name text ∙ (λ j. go e j || bytes_eq text name) ∙ ap (λ b. b || bytes_eq text name) (sym e) ∙ f

among_prefix : (xs : List (List ℕ)) (name text : List ℕ) → is_among (xs ++ name ∷ []) text ≡ false → is_among xs text ≡ false
among_prefix xs name text h = by (is_among xs text) refl (sym (among_push xs name text) ∙ h)
  where
    by : (b : Bool) → is_among xs text ≡ b → (is_among xs text || bytes_eq text name) ≡ false → is_among xs text ≡ false
    by true e f = absurd (both_ways (is_among xs text || bytes_eq text name) f (ap (λ b. b || bytes_eq text name) e))
    by false e f = e

-- modules whose names pass a test, after others
new_filtered : (test : List ℕ → Bool) (before others : List (List ℕ)) (ms : List Named) → ((text : List ℕ) → test text ≡ true → is_among before text ≡ false → is_among others text ≡ false) → AllNew before ms
    → AllNew others (filter (λ (m : Named). test m.name) ms)
new_filtered test before others [] go new = tt
new_filtered test before others (m ∷ ms) go new =
    by (test m.name) refl
    (new_filtered test (before ++ m.name ∷ []) (others ++ m.name ∷ []) ms (λ text passes. among_same before others m.name text (go text passes)) new.1)
    (new_filtered test (before ++ m.name ∷ []) others ms (λ text passes h. go text passes (among_prefix before m.name text h)) new.1)
  where
    by : (b : Bool) → test m.name ≡ b → AllNew (others ++ m.name ∷ []) (filter (λ (m : Named). test m.name) ms) → AllNew others (filter (λ (m : Named). test m.name) ms)
        → AllNew others (if b then m ∷ filter (λ (m : Named). test m.name) ms else filter (λ (m : Named). test m.name) ms)
    by true e taken left = (go m.name e new.0, taken)
    by false e taken left = left

new_joined : (before : List (List ℕ)) (xs ys : List Named) → AllNew before xs → AllNew (before ++ called xs) ys → AllNew before (xs ++ ys)
new_joined before [] ys first second = subst (λ (names : List (List ℕ)). AllNew names ys) (append-nil before) second
new_joined before (x ∷ xs) ys first second =
    (first.0, new_joined (before ++ x.name ∷ []) xs ys first.1 (subst (λ (names : List (List ℕ)). AllNew names ys) (sym (append_assoc before (x.name ∷ []) (called xs))) second))

differs : (text name : List ℕ) (b : Bool) → bytes_eq text name ≡ b → not (is_built_in text) ≡ true → is_built_in name ≡ true → bytes_eq text name ≡ false
differs text name true same other own =
    absurd (both_ways true (sym (sym (ap not (ap is_built_in ((bytes_eq-Decides text name).0 same) ∙ own)) ∙ other)) refl)
differs text name false same other own = same

-- a name that isn't built in is none of those that are
not_own : (ms : List Named) (text : List ℕ) → not (is_built_in text) ≡ true → is_among (called (filter (λ (m : Named). is_built_in m.name) ms)) text ≡ false
not_own [] text other = refl
not_own (m ∷ ms) text other = by (is_built_in m.name) refl (not_own ms text other)
  where
    by : (b : Bool) → is_built_in m.name ≡ b → is_among (called (filter (λ (m : Named). is_built_in m.name) ms)) text ≡ false
        → is_among (called (if b then m ∷ filter (λ (m : Named). is_built_in m.name) ms else filter (λ (m : Named). is_built_in m.name) ms)) text ≡ false
    by false e later = later
    by true e later = (λ j. differs text m.name (bytes_eq text m.name) refl other e j || later j)

among_more : (xs : List (List ℕ)) (name text : List ℕ) → is_among xs text ≡ true → is_among (xs ++ name ∷ []) text ≡ true
among_more xs name text h = among_push xs name text ∙ ap (λ b. b || bytes_eq text name) h

all_both : (P Q R : List ℕ → Type 0) → ((n : List ℕ) → P n → Q n → R n) → (xs : List (List ℕ)) → All P xs → All Q xs → All R xs
all_both P Q R go xs p q = λ k d fits. go (get_or xs k d) (p k d fits) (q k d fits)

-- each name that is asked for stays among those before
after_filtered : (test : List ℕ → Bool) (asked : List ℕ → Bool) (before others : List (List ℕ)) (ms : List Named) → ((text : List ℕ) → asked text ≡ true → is_among before text ≡ true → is_among others text ≡ true)
    → All (λ (m : Named). test m.name ≡ true → All (λ name. asked name ≡ true) (import_names m)) ms
    → All (λ (m : Named). test m.name ≡ false → asked m.name ≡ true → is_among others m.name ≡ true) ms
    → AllAfter before ms → AllAfter others (filter (λ (m : Named). test m.name) ms)
after_filtered test asked before others [] go closed there after = tt
after_filtered test asked before others (m ∷ ms) go closed there after =
    let closed_here = All-head (λ (m : Named). test m.name ≡ true → All (λ name. asked name ≡ true) (import_names m)) m ms closed in
    let closed_later = All-tail (λ (m : Named). test m.name ≡ true → All (λ name. asked name ≡ true) (import_names m)) m ms closed in
    let there_here = All-head (λ (m : Named). test m.name ≡ false → asked m.name ≡ true → is_among others m.name ≡ true) m ms there in
    let there_later = All-tail (λ (m : Named). test m.name ≡ false → asked m.name ≡ true → is_among others m.name ≡ true) m ms there in
    by (test m.name) refl closed_here there_here
    (after_filtered test asked (before ++ m.name ∷ []) (others ++ m.name ∷ []) ms (λ text ask h. taken text (go text ask) (either (is_among before text) (bytes_eq text m.name) (sym (among_push before m.name text) ∙ h))) closed_later
    (All-weaker (λ (m : Named). test m.name ≡ false → asked m.name ≡ true → is_among others m.name ≡ true) (λ (n : Named). test n.name ≡ false → asked n.name ≡ true → is_among (others ++ m.name ∷ []) n.name ≡ true)
    (λ n h e f. among_more others m.name n.name (h e f)) ms there_later) after.1)
    (λ e. after_filtered test asked (before ++ m.name ∷ []) others ms (λ text ask h. left text ask (go text ask) (there_here e) (either (is_among before text) (bytes_eq text m.name) (sym (among_push before m.name text) ∙ h))) closed_later there_later after.1)
  where
    taken : (text : List ℕ) → (is_among before text ≡ true → is_among others text ≡ true) → (is_among before text ≡ true) ⊎ (bytes_eq text m.name ≡ true) → is_among (others ++ m.name ∷ []) text ≡ true
    taken text go (inl h) = among_more others m.name text (go h)
    taken text go (inr same) = among_push others m.name text ∙ ap (λ b. is_among others text || b) same ∙ or_true (is_among others text)

    left : (text : List ℕ) → asked text ≡ true → (is_among before text ≡ true → is_among others text ≡ true) → (asked m.name ≡ true → is_among others m.name ≡ true) → (is_among before text ≡ true) ⊎ (bytes_eq text m.name ≡ true)
        → is_among others text ≡ true
    left text ask go there (inl h) = go h
    left text ask go there (inr same) =
        let e = (bytes_eq-Decides text m.name).0 same in
        ap (is_among others) e ∙ there (ap asked (sym e) ∙ ask)

    by : (b : Bool) → test m.name ≡ b → (test m.name ≡ true → All (λ name. asked name ≡ true) (import_names m)) → (test m.name ≡ false → asked m.name ≡ true → is_among others m.name ≡ true)
        → AllAfter (others ++ m.name ∷ []) (filter (λ (m : Named). test m.name) ms) → (test m.name ≡ false → AllAfter others (filter (λ (m : Named). test m.name) ms))
        → AllAfter others (if b then m ∷ filter (λ (m : Named). test m.name) ms else filter (λ (m : Named). test m.name) ms)
    by true e closed there taken left =
        (all_both (λ name. asked name ≡ true) (λ name. is_among before name ≡ true) (λ name. is_among others name ≡ true) go (import_names m) (closed e) after.0, taken)
    by false e closed there taken left = left e

after_joined : (before : List (List ℕ)) (xs ys : List Named) → AllAfter before xs → AllAfter (before ++ called xs) ys → AllAfter before (xs ++ ys)
after_joined before [] ys first second = subst (λ (names : List (List ℕ)). AllAfter names ys) (append-nil before) second
after_joined before (x ∷ xs) ys first second =
    (first.0, after_joined (before ++ x.name ∷ []) xs ys first.1 (subst (λ (names : List (List ℕ)). AllAfter names ys) (sym (append_assoc before (x.name ∷ []) (called xs))) second))

-- those that are built in are among those that are
own_there : (ms : List Named) → All (λ (m : Named). not (is_built_in m.name) ≡ false → true ≡ true → is_among (called (filter (λ (m : Named). is_built_in m.name) ms)) m.name ≡ true) ms
own_there [] = All-nil (λ (m : Named). not (is_built_in m.name) ≡ false → true ≡ true → is_among [] m.name ≡ true)
own_there (m ∷ ms) =
    All-cons (λ (n : Named). not (is_built_in n.name) ≡ false → true ≡ true → is_among (called (filter (λ (m : Named). is_built_in m.name) (m ∷ ms))) n.name ≡ true) m ms
    (λ own f. here (is_built_in m.name) own)
    (All-weaker (λ (n : Named). not (is_built_in n.name) ≡ false → true ≡ true → is_among (called (filter (λ (m : Named). is_built_in m.name) ms)) n.name ≡ true)
    (λ (n : Named). not (is_built_in n.name) ≡ false → true ≡ true → is_among (called (filter (λ (m : Named). is_built_in m.name) (m ∷ ms))) n.name ≡ true)
    (λ n h own f. later n.name (is_built_in m.name) (h own f)) ms (own_there ms))
  where
    here : (b : Bool) → not b ≡ false → is_among (called (if b then m ∷ filter (λ (m : Named). is_built_in m.name) ms else filter (λ (m : Named). is_built_in m.name) ms)) m.name ≡ true
    here true own = ap (λ b. b || is_among (called (filter (λ (m : Named). is_built_in m.name) ms)) m.name) ((bytes_eq-Decides m.name m.name).1 refl)
    here false own = absurd (both_ways true own refl)

    later : (text : List ℕ) (b : Bool) → is_among (called (filter (λ (m : Named). is_built_in m.name) ms)) text ≡ true
        → is_among (called (if b then m ∷ filter (λ (m : Named). is_built_in m.name) ms else filter (λ (m : Named). is_built_in m.name) ms)) text ≡ true
    later text true h = ap (λ b. bytes_eq text m.name || b) h ∙ or_true (bytes_eq text m.name)
    later text false h = h

pub ordered_first : (ms : List Named) → AreOrdered ms → AreOrdered (built_in_first ms)
ordered_first ms ordered =
    let own = filter (λ (m : Named). is_built_in m.name) ms in
    let others = filter (λ (m : Named). not (is_built_in m.name)) ms in
    record {
      differ = new_joined [] own others (new_filtered is_built_in [] [] ms (λ text passes h. h) ordered.differ)
          (new_filtered (λ text. not (is_built_in text)) [] (called own) ms (λ text passes h. not_own ms text passes) ordered.differ);
      after = after_joined [] own others
          (after_filtered is_built_in is_built_in [] [] ms (λ text ask h. h)
          (All-weaker IsOwn (λ (m : Named). is_built_in m.name ≡ true → All (λ name. is_built_in name ≡ true) (import_names m)) own_imports ms ordered.own)
          (λ k d fits e f. absurd (both_ways (is_built_in (get_or ms k d).name) e f)) ordered.after)
          (after_filtered (λ text. not (is_built_in text)) (λ text. true) [] (called own) ms (λ text ask h. absurd (both_ways true (sym h) refl)) (λ k d fits e. λ k d fits. refl) (own_there ms) ordered.after);
      own = All-append IsOwn own others (All-filter (λ (m : Named). is_built_in m.name) IsOwn ms ordered.own) (All-filter (λ (m : Named). not (is_built_in m.name)) IsOwn ms ordered.own);
    }
