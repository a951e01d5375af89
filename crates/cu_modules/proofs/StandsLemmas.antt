-- What holds between visits is kept where a module comes to the path, and where it leaves the path and is done.
use Rattle.std.proofs.Common.{◌≡◌, ◌∙◌, ◌+◌, ◌≤◌, ◌||◌, ℕ, Bool, true, false, not, List, [], ◌∷◌, ◌++◌, map, Some, None, refl, sym, ap, subst, arith, append_assoc, append-nil, length, if◌then◌else◌}
use Rattle.std.proofs.lemmas.Bool.{both_ways}
use Rattle.std.proofs.lemmas.List.{length-append, map-append}
use Rattle.std.proofs.lemmas.List.Elements.{All-cons, All-head, All-nil, All-pop, All-push, All-tail, All-weaker, filter-append}
use Rattle.std.proofs.lemmas.Slice.Eq.{bytes_eq-Decides}
use Rattle.std.specs.List.{All, list_any}
use Rattle.std.specs.Prelude.{is_some}
use Rattle.std.specs.Str.{bytes_eq}
use Rattle.cu_names.proofs.Growth.{known-extends, text_of-extends}
use Rattle.cu_names.specs.declared.names.NameId.{NameId}
use Rattle.cu_names.specs.Texts.{AllDiffer, Extends, IsKnown, text_of}
use Rattle.cu_prelude.specs.declared.prelude.TheConstants.{PRELUDE}
use Rattle.cu_prelude.specs.declared.set_functions.TheConstants.{SET_FUNCTIONS}
use Rattle.cu_syntax.specs.Answer.{module_meaning}
use Rattle.cu_syntax.specs.declared.text.Module as syntax
use Rattle.cu_syntax.specs.Owners.{ModuleIsOf}
use Rattle.cu_modules.specs.declared.modules.Module.{Module}
use Rattle.cu_modules.specs.declared.visits.Progress.{Progress}
use Rattle.cu_modules.specs.Imports.{AreImports}
use Rattle.cu_uses.specs.Binders.{is_among}
use Rattle.cu_modules.specs.Ordering.{AllAfter, AllNew, AreOrdered, IsOwn, module_of, modules_of, texts_of}
use Rattle.cu_modules.specs.BuiltInEntities.{prelude_name, set_functions_name}
use Rattle.cu_modules.specs.Inside.Progress.{Enters, Stands, StandsFor, built_in_met, fetched_with, is_met, one_if}
use Rattle.cu_modules.specs.Reading.{HasModule, HasPrelude}
use Rattle.cu_modules.specs.Scopes.{Named}
use Rattle.cu_modules.specs.Walk.{IsNew, fetched, fetched_names, has_name, import_names, is_built_in, is_there, most_modules}
use Rattle.cu_modules.proofs.MeaningLemmas.{all_have, all_known, has_prelude, modules_same, texts_same}
use Rattle.cu_modules.proofs.PathLemmas.{bytes_sym}

abbrev pub called : List Named → List (List ℕ)
called ms = map (λ (m : Named). m.name) ms

-- ---- lists with one more at the end

any_append : {X : Type 0} (test : X → Bool) (xs ys : List X) → list_any test (xs ++ ys) ≡ (list_any test xs || list_any test ys)
any_append test [] ys = refl
any_append test (x ∷ xs) ys = ap (λ b. test x || b) (any_append test xs ys) ∙ or_assoc (test x) (list_any test xs) (list_any test ys)
  where
    or_assoc : (a b c : Bool) → (a || (b || c)) ≡ ((a || b) || c)
    or_assoc true b c = refl
    or_assoc false b c = refl

or_false : (b : Bool) → (b || false) ≡ b
or_false true = refl
or_false false = refl

pub among_push : (path : List (List ℕ)) (name text : List ℕ) → is_among (path ++ name ∷ []) text ≡ (is_among path text || bytes_eq text name)
among_push path name text = any_append (bytes_eq text) path (name ∷ []) ∙ ap (λ b. is_among path text || b) (or_false (bytes_eq text name))

there_push : (ms : List Named) (m : Named) (text : List ℕ) → is_there (ms ++ m ∷ []) text ≡ (is_there ms text || bytes_eq m.name text)
there_push ms m text = any_append (has_name text) ms (m ∷ []) ∙ ap (λ b. is_there ms text || b) (or_false (bytes_eq m.name text))

pub there_among : (ms : List Named) (text : List ℕ) → is_there ms text ≡ is_among (called ms) text
there_among [] text = refl
there_among (m ∷ ms) text = λ j. bytes_sym m.name text j || there_among ms text j

-- ---- counts

pub fetched_push : (path : List (List ℕ)) (ms : List Named) (name : List ℕ) → fetched (path ++ name ∷ []) ms ≡ fetched_with name (fetched path ms)
fetched_push path ms name =
    ap (λ names. length names + length (fetched_names (called ms))) (filter-append (λ n. not (is_built_in n)) path (name ∷ []))
    ∙ ap (λ n. n + length (fetched_names (called ms))) (length-append (fetched_names path) (fetched_names (name ∷ [])))
    ∙ by (is_built_in name)
  where
    by : (b : Bool) → (length (fetched_names path) + length (if not b then name ∷ [] else [])) + length (fetched_names (called ms))
        ≡ (if b then length (fetched_names path) + length (fetched_names (called ms)) else length (fetched_names path) + length (fetched_names (called ms)) + 1)
    by true = omega arith
    by false = omega arith

pub fetched_moved : (path : List (List ℕ)) (ms : List Named) (m : Named) → fetched (path ++ m.name ∷ []) ms ≡ fetched path (ms ++ m ∷ [])
fetched_moved path ms m =
    ap (λ names. length names + length (fetched_names (called ms))) (filter-append (λ n. not (is_built_in n)) path (m.name ∷ []))
    ∙ ap (λ n. n + length (fetched_names (called ms))) (length-append (fetched_names path) (fetched_names (m.name ∷ [])))
    ∙ move (length (fetched_names path)) (length (fetched_names (m.name ∷ []))) (length (fetched_names (called ms)))
    ∙ ap (λ n. length (fetched_names path) + n) (sym (length-append (fetched_names (called ms)) (fetched_names (m.name ∷ []))))
    ∙ ap (λ names. length (fetched_names path) + length names) (sym (filter-append (λ n. not (is_built_in n)) (called ms) (m.name ∷ [])))
    ∙ ap (λ names. length (fetched_names path) + length (fetched_names names)) (sym (map-append (λ (m : Named). m.name) ms (m ∷ [])))
  where
    move : (a b c : ℕ) → (a + b) + c ≡ a + (c + b)
    move a b c = omega arith

met_push : (path : List (List ℕ)) (ms : List Named) (name text : List ℕ) → is_met (path ++ name ∷ []) ms text ≡ (is_met path ms text || bytes_eq text name)
met_push path ms name text = ap (λ b. b || is_there ms text) (among_push path name text) ∙ swap (is_among path text) (bytes_eq text name) (is_there ms text)
  where
    swap : (a b c : Bool) → ((a || b) || c) ≡ ((a || c) || b)
    swap true b c = refl
    swap false true true = refl
    swap false true false = refl
    swap false false true = refl
    swap false false false = refl

met_moved : (path : List (List ℕ)) (ms : List Named) (m : Named) (text : List ℕ) → is_met (path ++ m.name ∷ []) ms text ≡ is_met path (ms ++ m ∷ []) text
met_moved path ms m text =
    met_push path ms m.name text ∙ assoc (is_among path text) (is_there ms text) (bytes_eq text m.name)
    ∙ ap (λ b. is_among path text || (is_there ms text || b)) (bytes_sym text m.name) ∙ ap (λ b. is_among path text || b) (sym (there_push ms m text))
  where
    assoc : (a b c : Bool) → ((a || b) || c) ≡ (a || (b || c))
    assoc true b c = refl
    assoc false b c = refl

pub built_in_moved : (path : List (List ℕ)) (ms : List Named) (m : Named) → built_in_met (path ++ m.name ∷ []) ms ≡ built_in_met path (ms ++ m ∷ [])
built_in_moved path ms m = λ j. one_if (met_moved path ms m prelude_name j) + one_if (met_moved path ms m set_functions_name j)

built_tests : (name : List ℕ) → is_built_in name ≡ (bytes_eq name prelude_name || bytes_eq name set_functions_name)
built_tests name = by (bytes_eq name prelude_name) (bytes_eq name set_functions_name)
  where
    by : (p s : Bool) → is_some (if p then Some PRELUDE.now else if s then Some SET_FUNCTIONS.now else None) ≡ (p || s)
    by true s = refl
    by false true = refl
    by false false = refl

counted : (a b p s : Bool) → (p ≡ true → a ≡ false) → (s ≡ true → b ≡ false) → (p ≡ true → s ≡ false) → one_if (a || p) + one_if (b || s) ≡ one_if a + one_if b + one_if (p || s)
counted true b true s ha hb hs = absurd (both_ways true (ha refl) refl)
counted a true p true ha hb hs = absurd (both_ways true (hb refl) refl)
counted a b true true ha hb hs = absurd (both_ways true (hs refl) refl)
counted false true true false ha hb hs = refl
counted false false true false ha hb hs = refl
counted true false false true ha hb hs = refl
counted false false false true ha hb hs = refl
counted true true false false ha hb hs = refl
counted true false false false ha hb hs = refl
counted false true false false ha hb hs = refl
counted false false false false ha hb hs = refl

-- a name that is new counts, if its module is built in
pub built_in_push : (path : List (List ℕ)) (ms : List Named) (name : List ℕ) → is_met path ms name ≡ false → built_in_met (path ++ name ∷ []) ms ≡ built_in_met path ms + one_if (is_built_in name)
built_in_push path ms name new =
    (λ j. one_if (met_push path ms name prelude_name j) + one_if (met_push path ms name set_functions_name j))
    ∙ counted (is_met path ms prelude_name) (is_met path ms set_functions_name) (bytes_eq prelude_name name) (bytes_eq set_functions_name name) (not_yet prelude_name) (not_yet set_functions_name) other
    ∙ ap (λ b. built_in_met path ms + one_if b) ((λ j. bytes_sym prelude_name name j || bytes_sym set_functions_name name j) ∙ sym (built_tests name))
  where
    not_yet : (text : List ℕ) → bytes_eq text name ≡ true → is_met path ms text ≡ false
    not_yet text same = ap (is_met path ms) ((bytes_eq-Decides text name).0 same) ∙ new

    other : bytes_eq prelude_name name ≡ true → bytes_eq set_functions_name name ≡ false
    other same = ap (bytes_eq set_functions_name) (sym ((bytes_eq-Decides prelude_name name).0 same))

-- ---- what holds of the modules that are done

all_new_push : (before : List (List ℕ)) (ms : List Named) (m : Named) → AllNew before ms → is_among (before ++ called ms) m.name ≡ false → AllNew before (ms ++ m ∷ [])
all_new_push before [] m new last = (ap (λ names. is_among names m.name) (sym (append-nil before)) ∙ last, tt)
all_new_push before (n ∷ ms) m new last = (new.0, all_new_push (before ++ n.name ∷ []) ms m new.1 (ap (λ names. is_among names m.name) (append_assoc before (n.name ∷ []) (called ms)) ∙ last))

all_after_push : (before : List (List ℕ)) (ms : List Named) (m : Named) → AllAfter before ms → All (λ name. is_among (before ++ called ms) name ≡ true) (import_names m) → AllAfter before (ms ++ m ∷ [])
all_after_push before [] m after last = (subst (λ (names : List (List ℕ)). All (λ name. is_among names name ≡ true) (import_names m)) (append-nil before) last, tt)
all_after_push before (n ∷ ms) m after last =
    (after.0, all_after_push (before ++ n.name ∷ []) ms m after.1 (subst (λ (names : List (List ℕ)). All (λ name. is_among names name ≡ true) (import_names m)) (sym (append_assoc before (n.name ∷ []) (called ms))) last))

-- a module that is new and stands after all that it imports
pub ordered_push : (ms : List Named) (m : Named) → AreOrdered ms → is_there ms m.name ≡ false → All (λ name. is_there ms name ≡ true) (import_names m) → IsOwn m → AreOrdered (ms ++ m ∷ [])
ordered_push ms m ordered new imported own = record {
  differ = all_new_push [] ms m ordered.differ (sym (there_among ms m.name) ∙ new);
  after = all_after_push [] ms m ordered.after (All-weaker (λ name. is_there ms name ≡ true) (λ name. is_among (called ms) name ≡ true) (λ name h. sym (there_among ms name) ∙ h) (import_names m) imported);
  own = All-push IsOwn ms m ordered.own own;
}

-- ---- the path

new_both : (a b : Bool) → a ≡ false → b ≡ false → (a || b) ≡ false
new_both a b ha hb = (λ j. ha j || hb j)

in_limits : (b : Bool) (length_path length_done count met : ℕ) → length_path + length_done ≡ count + met → (length_path + 1) + length_done ≡ (if b then count else count + 1) + (met + one_if b)
in_limits true length_path length_done count met e = omega arith
in_limits false length_path length_done count met e = omega arith

pub texts_push : (names : List (List ℕ)) (path : List NameId) (id : NameId) → texts_of names (path ++ id ∷ []) ≡ texts_of names path ++ text_of names id ∷ []
texts_push names path id = map-append (text_of names) path (id ∷ [])

apart_same : {old new : List (List ℕ)} → Extends old new → (done : List Module) (path : List NameId) → All (IsKnown old) path → All (λ id. is_there (modules_of old done) (text_of old id) ≡ false) path → modules_of new done ≡ modules_of old done
    → All (λ id. is_there (modules_of new done) (text_of new id) ≡ false) path
apart_same {old} {new} grown done [] known apart ms = All-nil (λ id. is_there (modules_of new done) (text_of new id) ≡ false)
apart_same {old} {new} grown done (id ∷ path) known apart ms =
    All-cons (λ id. is_there (modules_of new done) (text_of new id) ≡ false) id path
    (ap (λ modules. is_there modules (text_of new id)) ms ∙ ap (is_there (modules_of old done)) (text_of-extends grown id (All-head (IsKnown old) id path known)) ∙ All-head (λ id. is_there (modules_of old done) (text_of old id) ≡ false) id path apart)
    (apart_same grown done path (All-tail (IsKnown old) id path known) (All-tail (λ id. is_there (modules_of old done) (text_of old id) ≡ false) id path apart) ms)

-- a module comes to the path
pub on_path : {old new : List (List ℕ)} → Extends old new → (prelude name : NameId) (path : List NameId) (done : List Module) (count : ℕ) → AllDiffer new → StandsFor old prelude path done count → IsKnown old name
    → IsNew (texts_of old path) (modules_of old done) (text_of old name) → fetched_with (text_of old name) count ≤ most_modules
    → StandsFor new prelude (path ++ name ∷ []) done (fetched_with (text_of old name) count)
on_path {old} {new} grown prelude name path done count differ stands known is_new few =
    let t = text_of old name in
    let ms = modules_same grown done stands.done_known in
    let ts = texts_push new path name ∙ (λ j. texts_same grown path stands.path_known j ++ text_of-extends grown name known j ∷ []) in
    let P = texts_of old path in
    let M = modules_of old done in
    let not_met = new_both (is_among P t) (is_there M t) is_new.not_met is_new.not_done in
    record {
      differ = differ;
      has_prelude = has_prelude grown prelude stands.has_prelude;
      path_known = All-push (IsKnown new) path name (all_known grown path stands.path_known) (known-extends grown name known);
      done_known = all_have grown done stands.done_known;
      counted = ap (fetched_with t) stands.counted ∙ sym (fetched_push P M t) ∙ (λ j. fetched (sym ts j) (sym ms j));
      few = few;
      room =
          ap (λ n. n + length done) (length-append path (name ∷ []))
          ∙ in_limits (is_built_in t) (length path) (length done) count (built_in_met P M) stands.room
          ∙ ap (λ n. fetched_with t count + n) (sym (built_in_push P M t not_met) ∙ (λ j. built_in_met (sym ts j) (sym ms j)));
      apart = All-push (λ id. is_there (modules_of new done) (text_of new id) ≡ false) path name
          (apart_same grown done path stands.path_known stands.apart ms) (ap (λ modules. is_there modules (text_of new name)) ms ∙ ap (is_there M) (text_of-extends grown name known) ∙ is_new.not_done);
      ordered = subst AreOrdered (sym ms) stands.ordered;
    }

pub stands_at : (names : List (List ℕ)) (prelude other : NameId) (path path' : List NameId) (done done' : List Module) (count count' : ℕ) → other ≡ prelude → path' ≡ path → done' ≡ done → count' ≡ count
    → StandsFor names prelude path done count → StandsFor names other path' done' count'
stands_at names prelude other path path' done done' count count' e f g h stands =
    subst (λ (p : NameId). StandsFor names p path' done' count') (sym e)
    (subst (λ (p : List NameId). StandsFor names prelude p done' count') (sym f)
    (subst (λ (d : List Module). StandsFor names prelude path d count') (sym g) (subst (λ (n : ℕ). StandsFor names prelude path done n) (sym h) stands)))

pub entered : {old new : List (List ℕ)} → Extends old new → (before after : Progress) (name : NameId) (found : syntax.Module) (imports : List NameId) → AllDiffer new → Stands old before → IsKnown old name
    → IsNew (texts_of old before.path.items) (modules_of old before.done.items) (text_of old name) → after.prelude ≡ before.prelude → after.path.items ≡ before.path.items ++ name ∷ [] → after.done.items ≡ before.done.items
    → after.fetched ≡ fetched_with (text_of old name) before.fetched → after.fetched ≤ most_modules → ModuleIsOf name new found → IsOwn (record { name = text_of new name; syntax = module_meaning new found })
    → (HasModule new (record { name = name; syntax = found }) → HasPrelude new before.prelude → AreImports new (import_names (module_of new (record { name = name; syntax = found }))) imports)
    → Enters new before after name (record { name = name; syntax = found }) imports
entered {old} {new} grown before after name found imports differ stands known is_new same_prelude pushed same_done counted few owned own are =
    let m : Module = record { name = name; syntax = found } in
    let has : HasModule new m = record { known = known-extends grown name known; owned = owned } in
    let limit = subst (λ (n : ℕ). n ≤ most_modules) counted few in
    record {
      stands = stands_at new before.prelude after.prelude (before.path.items ++ name ∷ []) after.path.items before.done.items after.done.items (fetched_with (text_of old name) before.fetched) after.fetched same_prelude pushed same_done counted
          (on_path grown before.prelude name before.path.items before.done.items before.fetched differ stands known is_new limit);
      path = pushed;
      done = same_done;
      called = refl;
      has = has;
      imports = are has (has_prelude grown before.prelude stands.has_prelude);
      own = own;
    }

-- a module leaves the path and is done

all_popped : {X : Type 0} (P : X → Type 0) (xs : List X) (x : X) → All P (xs ++ x ∷ []) → All P xs × P x
all_popped P xs x h = All-pop P (xs ++ x ∷ []) xs (Some x) refl h

pub modules_push : (names : List (List ℕ)) (done : List Module) (m : Module) → modules_of names (done ++ m ∷ []) ≡ modules_of names done ++ module_of names m ∷ []
modules_push names done m = map-append (module_of names) done (m ∷ [])

or_first : (a b : Bool) → (a || b) ≡ false → (a ≡ false) × (b ≡ false)
or_first true b e = absurd (both_ways true e refl)
or_first false b e = (refl, e)

others_apart : (names : List (List ℕ)) (ms : List Named) (m : Named) (path : List NameId) → All (λ id. is_there ms (text_of names id) ≡ false) path → is_among (texts_of names path) m.name ≡ false
    → All (λ id. is_there (ms ++ m ∷ []) (text_of names id) ≡ false) path
others_apart names ms m [] apart new = All-nil (λ id. is_there (ms ++ m ∷ []) (text_of names id) ≡ false)
others_apart names ms m (id ∷ path) apart new =
    let parts = or_first (bytes_eq m.name (text_of names id)) (is_among (texts_of names path) m.name) new in
    All-cons (λ id. is_there (ms ++ m ∷ []) (text_of names id) ≡ false) id path
    (there_push ms m (text_of names id) ∙ new_both (is_there ms (text_of names id)) (bytes_eq m.name (text_of names id)) (All-head (λ id. is_there ms (text_of names id) ≡ false) id path apart) parts.0)
    (others_apart names ms m path (All-tail (λ id. is_there ms (text_of names id) ≡ false) id path apart) parts.1)

pub off_path : (names : List (List ℕ)) (prelude name : NameId) (path : List NameId) (done : List Module) (count : ℕ) (m : Module) → StandsFor names prelude (path ++ name ∷ []) done count → m.name ≡ name → HasModule names m
    → is_among (texts_of names path) (text_of names name) ≡ false → All (λ text. is_there (modules_of names done) text ≡ true) (import_names (module_of names m)) → IsOwn (module_of names m)
    → StandsFor names prelude path (done ++ m ∷ []) count
off_path names prelude name path done count m stands same has is_new imported own =
    let M = modules_of names done in
    let n = module_of names m in
    let P = texts_of names path in
    let called_so : text_of names name ≡ n.name = ap (text_of names) (sym same) in
    let ts : texts_of names (path ++ name ∷ []) ≡ P ++ n.name ∷ [] = texts_push names path name ∙ ap (λ t. P ++ t ∷ []) called_so in
    let ms = modules_push names done m in
    let apart = all_popped (λ id. is_there M (text_of names id) ≡ false) path name stands.apart in
    record {
      differ = stands.differ;
      has_prelude = stands.has_prelude;
      path_known = (all_popped (IsKnown names) path name stands.path_known).0;
      done_known = All-push (HasModule names) done m stands.done_known has;
      counted = stands.counted ∙ ap (λ texts. fetched texts M) ts ∙ fetched_moved P M n ∙ ap (fetched P) (sym ms);
      few = stands.few;
      room =
          moved_room (length path) (length (path ++ name ∷ [])) (length done) (length (done ++ m ∷ [])) (length-append path (name ∷ [])) (length-append done (m ∷ []))
          ∙ stands.room ∙ ap (λ k. count + k) (ap (λ texts. built_in_met texts M) ts ∙ built_in_moved P M n ∙ ap (built_in_met P) (sym ms));
      apart = subst (λ (ms : List Named). All (λ id. is_there ms (text_of names id) ≡ false) path) (sym ms) (others_apart names M n path apart.0 (ap (is_among P) (sym called_so) ∙ is_new));
      ordered = subst AreOrdered (sym ms) (ordered_push M n stands.ordered (ap (is_there M) (sym called_so) ∙ apart.1) imported own);
    }
  where
    moved_room : (a a' b b' : ℕ) → a' ≡ a + 1 → b' ≡ b + 1 → a + b' ≡ a' + b
    moved_room a a' b b' e f = omega arith
