-- Modules that a root reaches stand in order, the Prelude first, and are read from texts.
use Rattle.std.specs.Prelude.{◌≡◌, ℕ, Bool, true, false, ◌||◌, not, List, [], ◌∷◌, ◌++◌, Option, Some, Result, Ok, Err, IfOk, if◌then◌else◌, is_some, map, refl}
use Rattle.std.proofs.Common.{ap, subst, sym, ◌∙◌}
use Rattle.std.proofs.lemmas.Bool.{both_ways, or_from, or_left, or_right}
use Rattle.std.proofs.lemmas.List.Elements.{All-cons, All-head, All-nil}
use Rattle.std.proofs.lemmas.Slice.Eq.{bytes_eq-Decides}
use Rattle.std.specs.List.{All, filter, flat_map, list_any}
use Rattle.std.specs.Str.{bytes_eq}
use Rattle.cu_prelude.specs.BuiltIn.{built_in}
use Rattle.cu_syntax.specs.Syntax.{Import, Module}
use Rattle.cu_uses.specs.Binders.{is_among}
use Rattle.cu_modules.specs.BuiltInEntities.{prelude_name}
use Rattle.cu_modules.specs.Ordering.{AreOrdered, IsOwn}
use Rattle.cu_modules.specs.Scopes.{Named, imports_by, names_module, prelude_import}
use Rattle.cu_modules.specs.Texts.{IsRead}
use Rattle.cu_modules.specs.Walk.{IsOpen, Refusal, VisitAll, Visits, Walk, built_in_first, import_names, is_built_in, is_there, source}
use Rattle.cu_modules.proofs.OrderLemmas.{ordered_first}
use Rattle.cu_modules.proofs.StandsLemmas.{ordered_push}
use Rattle.cu_front_laws.proofs.Members.{Every, every_append, every_filter}

abbrev Folder : Type 0
Folder = List ℕ → Option (List ℕ)

-- a module is what some text is read as
abbrev pub IsText : Named → Type 0
IsText m = (text : List ℕ) × IsRead m.name text (Ok m.syntax)

-- ---- visits

-- what is done stays done, and what a path leads to isn't done
pub record Kept (path : List (List ℕ)) (before after : List Named) : Type 0 where
  pub ordered : AreOrdered after
  pub texts : Every IsText after
  pub stay : (x : List ℕ) → is_there before x ≡ true → is_there after x ≡ true
  pub apart : (x : List ℕ) → is_among path x ≡ true → is_there before x ≡ false → is_there after x ≡ false

abbrev Done : List (List ℕ) → List Named → List ℕ → List Named → Type 0
Done path before name after = Kept path before after × (is_there after name ≡ true)

abbrev AllDone : List (List ℕ) → List Named → List (List ℕ) → List Named → Type 0
AllDone path before names after = Kept path before after × All (λ (x : List ℕ). is_there after x ≡ true) names

there_prefix : (ms : List Named) (m : Named) (x : List ℕ) → is_there ms x ≡ true → is_there (ms ++ m ∷ []) x ≡ true
there_prefix [] m x h = absurd (both_ways false refl h)
there_prefix (n ∷ ms) m x h = by (bytes_eq n.name x) h (there_prefix ms m x)
  where
    by : (b : Bool) → (b || is_there ms x) ≡ true → ((is_there ms x ≡ true) → is_there (ms ++ m ∷ []) x ≡ true)
        → (b || is_there (ms ++ m ∷ []) x) ≡ true
    by true h go = refl
    by false h go = go h

there_last : (ms : List Named) (m : Named) (x : List ℕ) → bytes_eq m.name x ≡ true → is_there (ms ++ m ∷ []) x ≡ true
there_last [] m x h = or_left (bytes_eq m.name x) false h
there_last (n ∷ ms) m x h = or_right (bytes_eq n.name x) (is_there (ms ++ m ∷ []) x) (there_last ms m x h)

not_there : (ms : List Named) (m : Named) (x : List ℕ) → is_there ms x ≡ false → bytes_eq m.name x ≡ false → is_there (ms ++ m ∷ []) x ≡ false
not_there [] m x out other = or_from (bytes_eq m.name x) false other refl
not_there (n ∷ ms) m x out other = by (bytes_eq n.name x) out (λ h. not_there ms m x h other)
  where
    by : (b : Bool) → (b || is_there ms x) ≡ false → ((is_there ms x ≡ false) → is_there (ms ++ m ∷ []) x ≡ false)
        → (b || is_there (ms ++ m ∷ []) x) ≡ false
    by true h go = absurd (both_ways true h refl)
    by false h go = go h

among_more : (xs : List (List ℕ)) (y x : List ℕ) → is_among xs x ≡ true → is_among (xs ++ y ∷ []) x ≡ true
among_more [] y x h = absurd (both_ways false refl h)
among_more (z ∷ xs) y x h = by (bytes_eq x z) h (among_more xs y x)
  where
    by : (b : Bool) → (b || is_among xs x) ≡ true → ((is_among xs x ≡ true) → is_among (xs ++ y ∷ []) x ≡ true)
        → (b || is_among (xs ++ y ∷ []) x) ≡ true
    by true h go = refl
    by false h go = go h

among_end : (xs : List (List ℕ)) (x : List ℕ) → is_among (xs ++ x ∷ []) x ≡ true
among_end [] x = or_left (bytes_eq x x) false ((bytes_eq-Decides x x).1 refl)
among_end (z ∷ xs) x = or_right (bytes_eq x z) (is_among (xs ++ x ∷ []) x) (among_end xs x)

other_text : (path : List (List ℕ)) (y x : List ℕ) (b : Bool) → bytes_eq y x ≡ b → is_among path y ≡ false → is_among path x ≡ true → b ≡ false
other_text path y x true same out inside =
    absurd (both_ways (is_among path x) (sym (ap (is_among path) ((bytes_eq-Decides y x).0 same)) ∙ out) inside)
other_text path y x false same out inside = refl

-- a module that is built in is its own text's
own_text : (held : Folder) (name text : List ℕ) (syntax : Module) → source held name ≡ Some text → IsRead name text (Ok syntax)
    → IsOwn (record { name = name; syntax = syntax })
own_text held name text syntax is read other built =
    let from : source held name ≡ Some other = ap (λ b. if b then built_in name else held name) (ap is_some built) ∙ built in
    let same : text ≡ other = two from in
    subst (λ (t : List ℕ). IsRead name t (Ok syntax)) same read
  where
    two : source held name ≡ Some other → text ≡ other
    two from =
        let both : Some text ≡ Some other = sym is ∙ from in
        cc

module _ (held : Folder) where
  pushed : (path : List (List ℕ)) (before after : List Named) (name text : List ℕ) (syntax : Module) → IsOpen path before name
      → source held name ≡ Some text → IsRead name text (Ok syntax)
      → AllDone (path ++ name ∷ []) before (import_names (record { name = name; syntax = syntax })) after
      → Done path before name (after ++ record { name = name; syntax = syntax } ∷ [])
  pushed path before after name text syntax may is read done =
      let m : Named = record { name = name; syntax = syntax } in
      let out = done.0.apart name (among_end path name) may.new.not_done in (
        record {
          ordered = ordered_push after m done.0.ordered out done.1 (own_text held name text syntax is read);
          texts = every_append IsText after (m ∷ []) done.0.texts ((text, read), tt);
          stay = λ x h. there_prefix after m x (done.0.stay x h);
          apart = λ x in' h. not_there after m x (done.0.apart x (among_more path name x in') h)
              (other_text path name x (bytes_eq name x) refl may.new.not_met in');
        },
        there_last after m name ((bytes_eq-Decides name name).1 refl),
      )

  kept_self : (path : List (List ℕ)) (before : List Named) → AreOrdered before → Every IsText before → Kept path before before
  kept_self path before ordered texts = record { ordered = ordered; texts = texts; stay = λ x h. h; apart = λ x in' h. h }

  kept_both : (path : List (List ℕ)) (before between after : List Named) → Kept path before between → Kept path between after → Kept path before after
  kept_both path before between after one two = record {
    ordered = two.ordered;
    texts = two.texts;
    stay = λ x h. two.stay x (one.stay x h);
    apart = λ x in' h. two.apart x in' (one.apart x in' h);
  }

  mutual
    visit : (path : List (List ℕ)) (before : List Named) (name : List ℕ) (outcome : Result (List Named) Refusal) → AreOrdered before
        → Every IsText before → Visits held path before name outcome
        → IfOk outcome (Done path before name)
    visit path before name outcome ordered texts (Visits.done _ _ _ there) = (kept_self path before ordered texts, there)
    visit path before name outcome ordered texts (Visits.cyclic _ _ _ new met) = tt
    visit path before name outcome ordered texts (Visits.too_many _ _ _ new other most) = tt
    visit path before name outcome ordered texts (Visits.missing _ _ _ may none) = tt
    visit path before name outcome ordered texts (Visits.unread _ _ _ text fault may is read) = tt
    visit path before name outcome ordered texts (Visits.refused _ _ _ text syntax refusal may is read all) = tt
    visit path before name outcome ordered texts (Visits.visited _ _ after _ text syntax may is read all) =
        pushed path before after name text syntax may is read
        (visit_all (path ++ name ∷ []) before (import_names (record { name = name; syntax = syntax })) (Ok after) ordered texts all)

    visit_all : (path : List (List ℕ)) (before : List Named) (names : List (List ℕ)) (outcome : Result (List Named) Refusal) → AreOrdered before
        → Every IsText before → VisitAll held path before names outcome
        → IfOk outcome (AllDone path before names)
    visit_all path before names outcome ordered texts (VisitAll.no_more _ _) =
        (kept_self path before ordered texts, All-nil (λ (x : List ℕ). is_there before x ≡ true))
    visit_all path before names outcome ordered texts (VisitAll.stopped _ _ name others refusal v) = tt
    visit_all path before names outcome ordered texts (VisitAll.next _ _ between name others _ v all) =
        let one = visit path before name (Ok between) ordered texts v in
        next_done outcome one (visit_all path between others outcome one.0.ordered one.0.texts all)
      where
        next_done : (outcome : Result (List Named) Refusal) → Done path before name between → IfOk outcome (AllDone path between others)
            → IfOk outcome (AllDone path before (name ∷ others))
        next_done (Ok after) one more = (
          kept_both path before between after one.0 more.0,
          All-cons (λ (x : List ℕ). is_there after x ≡ true) name others (more.0.stay name one.1)
              more.1,
        )
        next_done (Err refusal) one more = tt

  -- ---- walks

  -- the modules of a walk
  pub record AreWalked (modules : List Named) : Type 0 where
    pub ordered : AreOrdered modules
    pub texts : Every IsText modules
    pub some : modules ≡ [] → ⊥

  none_ordered : AreOrdered []
  none_ordered = record { differ = tt; after = tt; own = All-nil IsOwn }

  some_first : (ms : List Named) → (ms ≡ [] → ⊥) → built_in_first ms ≡ [] → ⊥
  some_first [] some none = some refl
  some_first (m ∷ ms) some none = by (is_built_in m.name) none
    where
      by : (b : Bool) → (if b then m ∷ filter (λ (m : Named). is_built_in m.name) ms else filter (λ (m : Named). is_built_in m.name) ms)
          ++ (if not b then m ∷ filter (λ (m : Named). not (is_built_in m.name)) ms else filter (λ (m : Named). not (is_built_in m.name)) ms) ≡ [] → ⊥
      by true e = cc
      by false e = last (filter (λ (m : Named). is_built_in m.name) ms) e
        where
          last : (xs : List Named) → xs ++ m ∷ filter (λ (m : Named). not (is_built_in m.name)) ms ≡ [] → ⊥
          last [] e = cc
          last (x ∷ xs) e = cc

  pub walked : (root : List ℕ) (outcome : Result (List Named) Refusal) → Walk held root outcome → IfOk outcome AreWalked
  walked root outcome (Walk.refused refusal v) = tt
  walked root outcome (Walk.walked ms v) =
      let done = visit [] [] root (Ok ms) none_ordered tt v in
      record {
        ordered = ordered_first ms done.0.ordered;
        texts = every_append IsText (filter (λ (m : Named). is_built_in m.name) ms) (filter (λ (m : Named). not (is_built_in m.name)) ms)
            (every_filter IsText (λ (m : Named). is_built_in m.name) ms done.0.texts)
            (every_filter IsText (λ (m : Named). not (is_built_in m.name)) ms done.0.texts);
        some = some_first ms (λ none. both_ways false refl (ap (λ (xs : List Named). is_there xs root) (sym none) ∙ done.1));
      }

-- ---- the Prelude is the first

first_names : (m : Named) (ms : List Named) → AreOrdered (m ∷ ms) → import_names m ≡ []
first_names m ms ordered = by (import_names m) ordered.after.0
  where
    by : (xs : List (List ℕ)) → All (λ (x : List ℕ). is_among [] x ≡ true) xs → xs ≡ []
    by [] all = refl
    by (x ∷ xs) all = absurd (both_ways false refl (All-head (λ (x : List ℕ). is_among [] x ≡ true) x xs all))

pub first_prelude : (m : Named) (ms : List Named) → AreOrdered (m ∷ ms) → m.name ≡ prelude_name
first_prelude m ms ordered = by (bytes_eq m.name prelude_name) refl (flat_map imports_by m.syntax.items) (first_names m ms ordered)
  where
    by : (b : Bool) → bytes_eq m.name prelude_name ≡ b → (written : List Import)
        → map (λ (i : Import). i.name.text) (if b || list_any (names_module prelude_name) written then written else prelude_import ∷ written) ≡ []
        → m.name ≡ prelude_name
    by true is written none = (bytes_eq-Decides m.name prelude_name).0 is
    by false is [] none = absurd cc
    by false is (i ∷ written) none = absurd (some (names_module prelude_name i || list_any (names_module prelude_name) written) none)
      where
        some : (b : Bool) → map (λ (i : Import). i.name.text) (if b then i ∷ written else prelude_import ∷ i ∷ written) ≡ [] → ⊥
        some true e = cc
        some false e = cc
