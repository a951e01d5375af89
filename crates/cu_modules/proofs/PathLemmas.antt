-- Modules on a path and modules that are done, by their numbers and by their texts.
use Rattle.std.proofs.Common.{◌≡◌, ◌∙◌, ◌+◌, ◌-◌, ◌||◌, ℕ, suc, Bool, true, false, not, List, [], ◌∷◌, drop, take, Some, None, Option, refl, sym, ap, arith, length, if◌then◌else◌}
use Rattle.std.proofs.lemmas.Bool.{lt-ltb, ltb-true}
use Rattle.std.proofs.lemmas.Bool.Decides.{Decides-ltb, same_from_decides}
use Rattle.std.proofs.lemmas.List.{length-drop, take_all}
use Rattle.std.proofs.lemmas.List.Elements.{All-head, All-tail}
use Rattle.std.proofs.lemmas.Slice.Eq.{bytes_eq-Decides}
use Rattle.std.specs.List.{All, list_any, position, position_or_len}
use Rattle.std.specs.Prelude.{nat_eq, nat_lt}
use Rattle.std.specs.Str.{bytes_eq}
use Rattle.cu_names.specs.declared.names.NameId.{NameId}
use Rattle.cu_names.specs.Texts.{AllDiffer, IsKnown, text_of}
use Rattle.cu_modules.specs.declared.modules.Module.{Module}
use Rattle.cu_uses.specs.Binders.{is_among}
use Rattle.cu_modules.specs.Ordering.{modules_of, texts_of}
use Rattle.cu_modules.specs.Inside.Progress.{IsCycle}
use Rattle.cu_modules.specs.Reading.{HasModule}
use Rattle.cu_modules.specs.Walk.{ImportCycle, from, is_there}
use Rattle.cu_modules.proofs.NameLemmas.{same_name}

pub bytes_sym : (a b : List ℕ) → bytes_eq a b ≡ bytes_eq b a
bytes_sym a b =
    let forth = bytes_eq-Decides a b in
    let converse = bytes_eq-Decides b a in
    same_from_decides (bytes_eq a b) (bytes_eq b a) forth ((λ e. sym (converse.0 e), λ e. converse.1 (sym e)))

abbrev pub is_it : NameId → NameId → Bool
is_it name id = nat_eq id.0 name.0

abbrev pub is_module : NameId → Module → Bool
is_module name m = nat_eq m.name.0 name.0

pub done_same : (names : List (List ℕ)) (ms : List Module) (name : NameId) → AllDiffer names → All (HasModule names) ms → IsKnown names name → list_any (is_module name) ms ≡ is_there (modules_of names ms) (text_of names name)
done_same names [] name differ has known = refl
done_same names (m ∷ ms) name differ has known =
    (λ j. same_name names m.name name differ (All-head (HasModule names) m ms has).known known j || done_same names ms name differ (All-tail (HasModule names) m ms has) known j)

here_same : (names : List (List ℕ)) (id name : NameId) → AllDiffer names → IsKnown names id → IsKnown names name → is_it name id ≡ bytes_eq (text_of names name) (text_of names id)
here_same names id name differ known_id known = same_name names id name differ known_id known ∙ bytes_sym (text_of names id) (text_of names name)

path_same : (names : List (List ℕ)) (path : List NameId) (name : NameId) → AllDiffer names → All (IsKnown names) path → IsKnown names name → list_any (is_it name) path ≡ is_among (texts_of names path) (text_of names name)
path_same names [] name differ has known = refl
path_same names (id ∷ path) name differ has known =
    (λ j. here_same names id name differ (All-head (IsKnown names) id path has) known j || path_same names path name differ (All-tail (IsKnown names) id path has) known j)

one_more : (n : ℕ) → 1 + n ≡ suc n
one_more n = omega arith

shift : (a b : ℕ) → nat_lt a b ≡ nat_lt (1 + a) (suc b)
shift a b = same_from_decides (nat_lt a b) (nat_lt (1 + a) (suc b)) (Decides-ltb a b) ((λ e. let l = ltb-true (1 + a) (suc b) e in omega arith, λ l. lt-ltb (1 + a) (suc b) (omega arith)))

-- a place within the path is that of a module that is met
any_place : (name : NameId) (path : List NameId) → list_any (is_it name) path ≡ nat_lt (position_or_len (is_it name) path) (length path)
any_place name [] = refl
any_place name (id ∷ path) = by (is_it name id) (any_place name path)
  where
    by : (b : Bool) → list_any (is_it name) path ≡ nat_lt (position_or_len (is_it name) path) (length path)
        → (b || list_any (is_it name) path) ≡ nat_lt (if not b then 1 + position_or_len (is_it name) path else 0) (length (id ∷ path))
    by true later = sym (lt-ltb 0 (suc (length path)) (omega arith))
    by false later = later ∙ shift (position_or_len (is_it name) path) (length path)

cut_from : (names : List (List ℕ)) (path : List NameId) (name : NameId) → AllDiffer names → All (IsKnown names) path → IsKnown names name
    → from (text_of names name) (texts_of names path) ≡ texts_of names (drop (position_or_len (is_it name) path) path)
cut_from names [] name differ has known = refl
cut_from names (id ∷ path) name differ has known =
    sym (ap (λ b. if b then texts_of names (id ∷ path) else from (text_of names name) (texts_of names path)) (same_name names id name differ (All-head (IsKnown names) id path has) known))
    ∙ by (is_it name id) (cut_from names path name differ (All-tail (IsKnown names) id path has) known)
  where
    by : (b : Bool) → from (text_of names name) (texts_of names path) ≡ texts_of names (drop (position_or_len (is_it name) path) path)
        → (if b then texts_of names (id ∷ path) else from (text_of names name) (texts_of names path)) ≡ texts_of names (drop (if not b then 1 + position_or_len (is_it name) path else 0) (id ∷ path))
    by true later = refl
    by false later = later ∙ ap (λ n. texts_of names (drop n (id ∷ path))) (sym (one_more (position_or_len (is_it name) path)))

-- what a search finds

none_found : (b : Bool) (n : ℕ) → (if b then Some n else None) ≡ None → b ≡ false
none_found true n e = let no : ⊥ = cc in absurd no
none_found false n e = refl

one_found : (b : Bool) (n i : ℕ) → (if b then Some n else None) ≡ Some i → (b ≡ true) × (n ≡ i)
one_found true n i e = (refl, cc)
one_found false n i e = let no : ⊥ = cc in absurd no

pub new_there : (names : List (List ℕ)) (path : List NameId) (name : NameId) (r : Option ℕ) → AllDiffer names → All (IsKnown names) path → IsKnown names name
    → r ≡ position (is_it name) path → r ≡ None → is_among (texts_of names path) (text_of names name) ≡ false
new_there names path name r differ has known is none =
    let n = position_or_len (is_it name) path in
    sym (path_same names path name differ has known) ∙ any_place name path ∙ none_found (nat_lt n (length path)) n (sym is ∙ none)

pub met_there : (names : List (List ℕ)) (path cycle : List NameId) (name : NameId) (r : Option ℕ) (i : ℕ) → AllDiffer names → All (IsKnown names) path → IsKnown names name
    → r ≡ position (is_it name) path → r ≡ Some i → cycle ≡ take (length path - i) (drop i path) → IsCycle (texts_of names path) (text_of names name) (ImportCycle (texts_of names cycle))
met_there names path cycle name r i differ has known is at cut =
    let n = position_or_len (is_it name) path in
    let found = one_found (nat_lt n (length path)) n i (sym is ∙ at) in
    record {
      met = sym (path_same names path name differ has known) ∙ any_place name path ∙ found.0;
      refused = ap (λ ids. ImportCycle (texts_of names ids)) (cut ∙ take_all (length path - i) (drop i path) (let l = length-drop i path in omega arith) ∙ ap (λ i. drop i path) (sym found.1)) ∙ ap ImportCycle (sym (cut_from names path name differ has known));
    }
