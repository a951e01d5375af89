-- Entities of modules as numbers.
use Rattle.std.proofs.Common.{◌≡◌, ◌∙◌, ◌+◌, ◌<◌, ◌≤◌, ◌&&◌, cond, ℕ, zero, suc, Bool, true, false, List, [], ◌∷◌, ◌++◌, Option, None, Some, refl, sym, ap, arith, append-nil, length, map, take, take_all, if◌then◌else◌}
use Rattle.std.proofs.lemmas.Bool.{and_parts, both_ways}
use Rattle.std.proofs.lemmas.Iterator.Adapters.{position_from-zero}
use Rattle.std.proofs.Math.Seq.{take-append_seam}
use Rattle.std.proofs.lemmas.Bool.Decides.{Decides-eqb, Decides-ltb}
use Rattle.std.proofs.lemmas.List.{get_or_default, length-append, take-append-le}
use Rattle.std.proofs.lemmas.Option.{slice_get_within}
use Rattle.std.specs.Prelude.{codes, nat_eq, nat_lt, slice_get}
use Rattle.std.proofs.lemmas.List.Concat.{flat_map-append}
use Rattle.std.proofs.lemmas.List.Elements.{All-head, All-tail}
use Rattle.std.proofs.lemmas.Slice.Eq.{bytes_eq-Decides}
use Rattle.std.specs.List.{All, Contains, flat_map, position_from}
use Rattle.std.specs.Option.{option_map}
use Rattle.std.specs.Str.{bytes_eq}
use Rattle.cu_modules.specs.BuiltInEntities.{prelude_name, set_function_names, set_functions_name}
use Rattle.cu_kernel.specs.declared.local_program.Counts.{Counts}
use Rattle.cu_modules.specs.Scopes.{Named}
use Rattle.cu_names.specs.declared.names.NameId.{NameId}
use Rattle.cu_names.specs.Texts.{AllDiffer, IsKnown, text_of}
use Rattle.cu_toplevel.specs.declared.listing.Declared as code
use Rattle.cu_toplevel.specs.declared.listing.Listing.{Listing}
use Rattle.cu_toplevel.specs.Declarations.{all_lists, and_module}
use Rattle.cu_toplevel.specs.EntityTables.{IsText, sets_from}
use Rattle.cu_toplevel.specs.Listings.{DeclaredIsKnown, IsListing, declared_meaning}
use Rattle.cu_translation.specs.Numbered.{Declared, Numbered, constructors_in, functions_in, is_called, numbered, numbered_from, set_arity, synonyms_in, types_in}
use Rattle.cu_translation.specs.Parts.{counts}
use Rattle.cu_toplevel.proofs.DeclarationLemmas.{lists}
use Rattle.cu_toplevel.proofs.NameLemmas.{bytes_turned, same_name}

-- ---- names of set functions

abbrev arity_in : Option Numbered → Option ℕ
arity_in o = option_map (λ (n : Numbered). n.arity) o

sets_there : (owner name : List ℕ) (n m : ℕ) (texts : List (List ℕ)) → bytes_eq set_functions_name owner ≡ true
    → arity_in (numbered_from m owner name (sets_from n texts)) ≡ position_from (bytes_eq name) n texts
sets_there owner name n m [] is = refl
sets_there owner name n m (t ∷ texts) is =
    ap (λ h. arity_in (if h && bytes_eq t name then Some (record { number = m; arity = n }) else numbered_from (m + 1) owner name (sets_from (n + 1) texts))) is
    ∙ by (sets_there owner name (n + 1) (m + 1) texts is) (bytes_eq t name)
    ∙ ap (λ k. cond k (Some n) (position_from (bytes_eq name) (n + 1) texts)) (bytes_turned t name)
  where
    by : arity_in (numbered_from (m + 1) owner name (sets_from (n + 1) texts)) ≡ position_from (bytes_eq name) (n + 1) texts
        → (k : Bool) → arity_in (if true && k then Some (record { number = m; arity = n }) else numbered_from (m + 1) owner name (sets_from (n + 1) texts))
        ≡ cond k (Some n) (position_from (bytes_eq name) (n + 1) texts)
    by more true = refl
    by more false = more

sets_not : (owner name : List ℕ) (n m : ℕ) (texts : List (List ℕ)) → bytes_eq set_functions_name owner ≡ false → numbered_from m owner name (sets_from n texts) ≡ None
sets_not owner name n m [] is = refl
sets_not owner name n m (t ∷ texts) is =
    ap (λ h. if h && bytes_eq t name then Some (record { number = m; arity = n }) else numbered_from (m + 1) owner name (sets_from (n + 1) texts)) is
    ∙ sets_not owner name (n + 1) (m + 1) texts is

pub set_arity_is : (owner name : List ℕ) → arity_in (numbered owner name (sets_from 0 set_function_names)) ≡ set_arity owner name
set_arity_is owner name = by (bytes_eq set_functions_name owner) refl ∙ ap (λ h. if h then position_from (bytes_eq name) 0 set_function_names else None) (bytes_turned set_functions_name owner)
    ∙ ap (λ o. if bytes_eq owner set_functions_name then o else None) (sym (position_from-zero (bytes_eq name) set_function_names))
  where
    by : (h : Bool) → bytes_eq set_functions_name owner ≡ h → arity_in (numbered owner name (sets_from 0 set_function_names)) ≡ (if h then position_from (bytes_eq name) 0 set_function_names else None)
    by true is = sets_there owner name 0 0 set_function_names is
    by false is = ap (λ o. arity_in o) (sets_not owner name 0 0 set_function_names is)

-- ---- what no module declares

none_from : (names : List (List ℕ)) (text owner : List ℕ) (n : ℕ) (ds : List code.Declared) → ¬ (Contains names text) → All (DeclaredIsKnown names) ds
    → numbered_from n owner text (map (declared_meaning names) ds) ≡ None
none_from names text owner n [] absent known = refl
none_from names text owner n (d ∷ ds) absent known =
    by (none_from names text owner (n + 1) ds absent (All-tail (DeclaredIsKnown names) d ds known)) (is_called owner text (declared_meaning names d)) refl
  where
    by : numbered_from (n + 1) owner text (map (declared_meaning names) ds) ≡ None → (h : Bool) → is_called owner text (declared_meaning names d) ≡ h
        → (if h then Some (record { number = n; arity = d.arity }) else numbered_from (n + 1) owner text (map (declared_meaning names) ds)) ≡ None
    by more false here = more
    by more true here =
        let both = and_parts (bytes_eq (text_of names d.owner) owner) (bytes_eq (text_of names d.name) text) here in
        let same : text_of names d.name ≡ text = (bytes_eq-Decides (text_of names d.name) text).0 both.1 in
        let has : DeclaredIsKnown names d = All-head (DeclaredIsKnown names) d ds known in
        absurd (absent (d.name.0, has.name, get_or_default names d.name.0 text [] has.name ∙ same))

pub not_declared : (names : List (List ℕ)) (text owner : List ℕ) (ds : List Declared) (l : Listing) → ¬ (Contains names text) → IsListing names ds l → numbered owner text ds ≡ None
not_declared names text owner ds l absent has = ap (numbered owner text) (sym has.are) ∙ none_from names text owner 0 l.list.items absent has.known

-- ---- one module more

pub lists_more : (modules : List Named) (m : Named) → and_module m (all_lists modules) ≡ all_lists (modules ++ m ∷ [])
lists_more modules m = lists _ _ _ _ _ _ _ _ (more types_in) (more constructors_in) (more synonyms_in) (more functions_in)
  where
    more : (f : Named → List Declared) → flat_map f modules ++ f m ≡ flat_map f (modules ++ m ∷ [])
    more f = ap (λ ds. flat_map f modules ++ ds) (sym (append-nil (f m))) ∙ sym (flat_map-append f modules (m ∷ []))

get_prefix : {A : Type 0} (xs : List A) (y : A) (k : ℕ) → k < length xs → slice_get (xs ++ y ∷ []) k ≡ slice_get xs k
get_prefix [] y k within = let no : ⊥ = omega (arith, within) in absurd no
get_prefix (x ∷ xs) y zero within = refl
get_prefix (x ∷ xs) y (suc k) within = get_prefix xs y k (omega (arith, within))

get_last : {A : Type 0} (xs : List A) (y : A) → slice_get (xs ++ y ∷ []) (length xs) ≡ Some y
get_last [] y = refl
get_last (x ∷ xs) y = get_last xs y

pub starts_more : (before : List Named) (m : Named) (old new : List Counts) (start : Counts) → new ≡ old ++ start ∷ [] → length old ≡ length before → start ≡ counts before
    → ((k : ℕ) → k < length before → slice_get old k ≡ Some (counts (take k before)))
    → (k : ℕ) → k < length (before ++ m ∷ []) → slice_get new k ≡ Some (counts (take k (before ++ m ∷ [])))
starts_more before m old new start pushed counted is has k within = ap (λ xs. slice_get xs k) pushed ∙ by (nat_eq k (length before)) refl
  where
    by : (h : Bool) → nat_eq k (length before) ≡ h → slice_get (old ++ start ∷ []) k ≡ Some (counts (take k (before ++ m ∷ [])))
    by true here =
        let same : k ≡ length old = (Decides-eqb k (length before)).0 here ∙ sym counted in
        let all : take k (before ++ m ∷ []) ≡ before = ap (λ k. take k (before ++ m ∷ [])) ((Decides-eqb k (length before)).0 here) ∙ take-append_seam before (m ∷ []) in
        ap (slice_get (old ++ start ∷ [])) same ∙ get_last old start ∙ ap Some is ∙ ap (λ ms. Some (counts ms)) (sym all)
    by false here =
        let differ : k ≡ length before → ⊥ = λ e. both_ways (nat_eq k (length before)) here ((Decides-eqb k (length before)).1 e) in
        let whole : length (before ++ m ∷ []) ≡ length before + 1 = length-append before (m ∷ []) in
        let left : k < length before = omega (arith, within, whole, differ) in
        get_prefix old start k (omega (arith, left, counted)) ∙ has k left
        ∙ ap (λ ms. Some (counts ms)) (sym (take-append-le k before (m ∷ []) (omega (arith, left))))

pub counted_more : (before : List Named) (m : Named) (old new : List Counts) (start : Counts) → new ≡ old ++ start ∷ [] → length old ≡ length before → length new ≡ length (before ++ m ∷ [])
counted_more before m old new start pushed counted =
    ap length pushed ∙ length-append old (start ∷ []) ∙ ap (λ n. n + 1) counted ∙ sym (length-append before (m ∷ []))

pub start_before : (modules : List Named) (starts : List Counts) (k : ℕ) (start : Counts) → length starts ≡ length modules
    → ((k : ℕ) → k < length modules → slice_get starts k ≡ Some (counts (take k modules))) → slice_get starts k ≡ Some start → start ≡ counts (take k modules)
start_before modules starts k start counted has at =
    let within : k < length starts = slice_get_within starts k start at in
    let e : Some start ≡ Some (counts (take k modules)) = sym at ∙ has k (omega (arith, within, counted)) in
    cc

pub all_before : (modules : List Named) (starts : List Counts) (k : ℕ) → length starts ≡ length modules → nat_lt k (length starts) ≡ false → counts modules ≡ counts (take k modules)
all_before modules starts k counted not_less =
    let not : k < length starts → ⊥ = λ w. both_ways (nat_lt k (length starts)) not_less ((Decides-ltb k (length starts)).1 w) in
    let past : length modules ≤ k = omega (arith, not, counted) in
    ap counts (sym (take_all k modules past))

-- ---- the constructor between a list's first element and the others

pub cons_test : (names : List (List ℕ)) (owner name prelude cons : NameId) → AllDiffer names → IsKnown names owner → IsKnown names name → IsText names prelude prelude_name → IsText names cons (codes ":")
    → (nat_eq owner.0 prelude.0 && nat_eq name.0 cons.0) ≡ (bytes_eq (text_of names owner) prelude_name && bytes_eq (text_of names name) (codes ":"))
cons_test names owner name prelude cons differ known_owner known_name is_prelude is_cons = λ j.
    (same_name names owner prelude differ known_owner is_prelude.known ∙ ap (bytes_eq (text_of names owner)) is_prelude.is) j
    && (same_name names name cons differ known_name is_cons.known ∙ ap (bytes_eq (text_of names name)) is_cons.is) j
