-- Names, each once.
use Rattle.std.proofs.Common.{◌≡◌, ◌∙◌, ◌+◌, ◌<◌, ◌≤◌, ℕ, Bool, true, false, ◌||◌, List, [], ◌∷◌, ◌++◌, refl, sym, ap, ap₂, subst, append-nil, append_assoc, arith, drop, get_or, length, map, if◌then◌else◌}
use Rattle.std.proofs.lemmas.List.{drop_all, drop_more, map-append}
use Rattle.std.proofs.lemmas.List.Elements.{All-head, All-push, All-tail}
use Rattle.std.proofs.lemmas.List.Folds.{list_any-append}
use Rattle.std.specs.List.{All, list_any}
use Rattle.std.specs.Str.{bytes_eq}
use Rattle.indexmap.specs.IndexSet.{insert_key}
use Rattle.cu_modules.specs.Ordering.{texts_of}
use Rattle.cu_names.specs.contracts.names.NameIdPartialEq.TheImpl as ids
use Rattle.cu_names.specs.declared.names.NameId.{NameId}
use Rattle.cu_names.specs.Texts.{AllDiffer, IsKnown, text_of}
use Rattle.cu_uses.specs.Binders.{is_among}
use Rattle.cu_translation.specs.ModuleNames.{id_of}
use Rattle.cu_translation.specs.Parts.{each_once}
use Rattle.cu_toplevel.proofs.NameLemmas.{same_name, stands}
use Rattle.cu_toplevel.proofs.TopLemmas.{id_is}

-- ---- texts

-- only which texts stand before matters
once_same : (a b : List (List ℕ)) → ((t : List ℕ) → is_among a t ≡ is_among b t) → (xs : List (List ℕ)) → each_once a xs ≡ each_once b xs
once_same a b same [] = refl
once_same a b same (x ∷ xs) =
    ap (λ h. if h then each_once a xs else x ∷ each_once (x ∷ a) xs) (same x)
    ∙ ap₂ (λ (here other : List (List ℕ)). if is_among b x then here else x ∷ other) (once_same a b same xs)
    (once_same (x ∷ a) (x ∷ b) (λ t. ap (λ h. bytes_eq t x || h) (same t)) xs)

turned : (p q : Bool) → p || q ≡ q || (p || false)
turned true true = refl
turned true false = refl
turned false true = refl
turned false false = refl

first_or_last : (x : List ℕ) (a : List (List ℕ)) (t : List ℕ) → is_among (x ∷ a) t ≡ is_among (a ++ x ∷ []) t
first_or_last x a t = turned (bytes_eq t x) (is_among a t) ∙ sym (list_any-append (bytes_eq t) a (x ∷ []))

one_step : (done : List (List ℕ)) (x : List ℕ) (xs : List (List ℕ))
    → done ++ each_once done (x ∷ xs) ≡ (if is_among done x then done ++ each_once done xs else (done ++ x ∷ []) ++ each_once (done ++ x ∷ []) xs)
one_step done x xs = by (is_among done x)
  where
    by : (h : Bool) → done ++ (if h then each_once done xs else x ∷ each_once (x ∷ done) xs) ≡ (if h then done ++ each_once done xs else (done ++ x ∷ []) ++ each_once (done ++ x ∷ []) xs)
    by true = refl
    by false =
        ap (λ ys. done ++ x ∷ ys) (once_same (x ∷ done) (done ++ x ∷ []) (first_or_last x done) xs)
        ∙ sym (append_assoc done (x ∷ []) (each_once (done ++ x ∷ []) xs))

-- ---- numbers

among_same : (table : List (List ℕ)) (x : NameId) (keys : List NameId) → AllDiffer table → IsKnown table x → All (IsKnown table) keys
    → list_any (ids.eq-value.it x) keys ≡ is_among (texts_of table keys) (text_of table x)
among_same table x [] differ known all = refl
among_same table x (k ∷ keys) differ known all =
    ap₂ (λ p q. p || q) (same_name table x k differ known (All-head (IsKnown table) k keys all)) (among_same table x keys differ known (All-tail (IsKnown table) k keys all))

-- How far a loop has come.
pub record Once (table : List (List ℕ)) (names : List NameId) (i : ℕ) (keys : List NameId) : Type 0 where
  pub known : All (IsKnown table) keys
  pub are : texts_of table keys ++ each_once (texts_of table keys) (texts_of table (drop i names)) ≡ each_once [] (texts_of table names)

pub once_begun : (table : List (List ℕ)) (names keys : List NameId) → keys ≡ [] → Once table names 0 keys
once_begun table names keys none = subst (Once table names 0) (sym none) (record { known = λ i x within. absurd (nothing i within); are = refl })
  where
    nothing : (i : ℕ) → i < 0 → ⊥
    nothing i within = omega (arith, within)

pub once_more : (table : List (List ℕ)) (names : List NameId) (i : ℕ) (d : NameId) (old new : List NameId) → AllDiffer table → All (IsKnown table) names → i < length names
    → new ≡ insert_key ids.eq-value.it old (get_or names i d) → Once table names i old → Once table names (i + 1) new
once_more table names i d old new differ known within is before =
    by (list_any (ids.eq-value.it x) old) refl
  where
    x : NameId
    x = get_or names i d

    known_x : IsKnown table x
    known_x = known i d within

    rest : List (List ℕ)
    rest = texts_of table (drop (i + 1) names)

    done : List (List ℕ)
    done = texts_of table old

    stepped : (if is_among done (text_of table x) then done ++ each_once done rest else (done ++ text_of table x ∷ []) ++ each_once (done ++ text_of table x ∷ []) rest)
        ≡ each_once [] (texts_of table names)
    stepped = sym (one_step done (text_of table x) rest) ∙ ap (λ ns. done ++ each_once done (texts_of table ns)) (sym (drop_more names i d within)) ∙ before.are

    by : (h : Bool) → list_any (ids.eq-value.it x) old ≡ h → Once table names (i + 1) new
    by true there =
        subst (Once table names (i + 1)) (sym (is ∙ ap (λ h. if h then old else old ++ x ∷ []) there))
        (record {
          known = before.known;
          are = sym (ap (λ h. if h then done ++ each_once done rest else (done ++ text_of table x ∷ []) ++ each_once (done ++ text_of table x ∷ []) rest)
              (sym (among_same table x old differ known_x before.known) ∙ there)) ∙ stepped;
        })
    by false there =
        let texts : texts_of table (old ++ x ∷ []) ≡ done ++ text_of table x ∷ [] = map-append (text_of table) old (x ∷ []) in
        subst (Once table names (i + 1)) (sym (is ∙ ap (λ h. if h then old else old ++ x ∷ []) there))
        (record {
          known = All-push (IsKnown table) old x before.known known_x;
          are = ap (λ ts. ts ++ each_once ts rest) texts
              ∙ sym (ap (λ h. if h then done ++ each_once done rest else (done ++ text_of table x ∷ []) ++ each_once (done ++ text_of table x ∷ []) rest)
              (sym (among_same table x old differ known_x before.known) ∙ there)) ∙ stepped;
        })

pub numbers_of : (table : List (List ℕ)) (keys : List NameId) → AllDiffer table → All (IsKnown table) keys → keys ≡ map (id_of table) (texts_of table keys)
numbers_of table [] differ known = refl
numbers_of table (k ∷ keys) differ known =
    ap₂ (λ (id : NameId) (ids : List NameId). id ∷ ids) (sym (id_is table k (text_of table k) differ (stands table k (All-head (IsKnown table) k keys known))))
    (numbers_of table keys differ (All-tail (IsKnown table) k keys known))

pub once_done : (table : List (List ℕ)) (names : List NameId) (i : ℕ) (keys : List NameId) → AllDiffer table → length names ≤ i → Once table names i keys
    → keys ≡ map (id_of table) (each_once [] (texts_of table names))
once_done table names i keys differ past done =
    numbers_of table keys differ done.known
    ∙ ap (map (id_of table)) (sym (append-nil (texts_of table keys)) ∙ ap (λ ns. texts_of table keys ++ each_once (texts_of table keys) (texts_of table ns)) (sym (drop_all i names past)) ∙ done.are)
