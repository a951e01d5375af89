-- What is counted of usages and definitions, and what these need.
use Rattle.std.proofs.Common.{◌≡◌, ◌∙◌, ◌<◌, ◌≤◌, ◌+◌, ℕ, suc, List, [], ◌∷◌, ◌++◌, length, drop, get_or, map, refl, sym, ap, ap₂, subst, take}
use Rattle.std.proofs.lemmas.List.{drop_all, drop_more, map-append, take_all, take_more}
use Rattle.std.specs.List.{flat_map}
use Rattle.cu_lex.specs.Located as located
use Rattle.cu_translation.specs.declared.local_names.Binder as binders_found
use Rattle.cu_translation.specs.declared.local_names.Local as locals_found
use Rattle.cu_translation.specs.declared.local_names.Local.TheVariants as local
use Rattle.cu_translation.specs.declared.position.Position as places_found
use Rattle.cu_translation.specs.LocalNames.{Binder}
use Rattle.cu_translation.specs.Meaning.{binder_meaning, local_meaning, position_meaning}
use Rattle.cu_translation.specs.Numbering.{binder_number, function_number}
use Rattle.cu_sites.specs.Depending.{row}
use Rattle.cu_sites.specs.declared.definitions.Definition as definitions_found
use Rattle.cu_sites.specs.declared.relations.Relation.{Relation}
use Rattle.cu_sites.specs.Inside.Defining.{definition_meaning, definitions_meaning}
use Rattle.cu_sites.specs.Inside.Needing.{IsNeeded, definition_pairs, need_pairs}
use Rattle.cu_sites.specs.Inside.Relating.{Gains, Holds, Pair, pair}
use Rattle.cu_sites.specs.Inside.Using.{locals_meaning}
use Rattle.cu_sites.proofs.MemberLemmas.{one_more}
use Rattle.cu_sites.proofs.RelationLemmas.{gains_both, gains_none}

-- ---- loops

-- what is left to count, with its first element
pub left_as : {X Y : Type 0} (F : List X → List Y) (f : X → List Y) → ((x : X) (xs : List X) → F (x ∷ xs) ≡ f x ++ F xs) → (xs : List X) (i : ℕ) (x d : X)
    → x ≡ get_or xs i d → i < length xs → f x ++ F (drop (i + 1) xs) ≡ F (drop i xs)
left_as F f cons xs i x d is low = sym (ap F (drop_more xs i d low ∙ ap (λ y. y ∷ drop (i + 1) xs) (sym is)) ∙ cons x (drop (i + 1) xs))

pub gains_left : {X : Type 0} (F : List X → List Pair) (f : X → List Pair) → ((x : X) (xs : List X) → F (x ∷ xs) ≡ f x ++ F xs)
    → (xs : List X) (i : ℕ) (x d : X) (a b c : Relation) → x ≡ get_or xs i d → i < length xs
    → Gains (f x) a b → Gains (F (drop (i + 1) xs)) b c → Gains (F (drop i xs)) a c
gains_left F f cons xs i x d a b c is low here after =
    subst (λ ys. Gains ys a c) (left_as F f cons xs i x d is low) (gains_both (f x) (F (drop (i + 1) xs)) a b c here after)

-- ---- needs

pub need_variable : (binders : List Binder) (functions : List located.Position) (c : Relation) (v : Binder) (l : locals_found.Local) (b : binders_found.Binder)
    (x y : ℕ) (r s : Relation) → l ≡ local.Variable b → x ≡ binder_number binders v → y ≡ binder_number binders (binder_meaning b)
    → Gains (pair x y ∷ []) r s → Gains (need_pairs binders functions c v (local_meaning l)) r s
need_variable binders functions c v l b x y r s is e f gains =
    subst (λ (k : locals_found.Local). Gains (need_pairs binders functions c v (local_meaning k)) r s) (sym is)
    (subst (λ ps. Gains ps r s) (ap₂ (λ i k. pair i k ∷ []) e f) gains)

pub need_function : (binders : List Binder) (functions : List located.Position) (c : Relation) (v : Binder) (l : locals_found.Local) (p : places_found.Position)
    (n x y : ℕ) (found : List ℕ) (r s : Relation) → l ≡ local.Function p n → x ≡ binder_number binders v → y ≡ function_number functions (position_meaning p)
    → found ≡ row c y → Gains (map (pair x) found) r s → Gains (need_pairs binders functions c v (local_meaning l)) r s
need_function binders functions c v l p n x y found r s is e f at gains =
    subst (λ (k : locals_found.Local). Gains (need_pairs binders functions c v (local_meaning k)) r s) (sym is)
    (subst (λ ps. Gains ps r s) (ap (λ xs. map (pair x) xs) (at ∙ ap (row c) f) ∙ ap (λ i. map (pair i) (row c (function_number functions (position_meaning p)))) e) gains)

-- what is left to note of a definition
abbrev pub needs_left : List Binder → List located.Position → Relation → Binder → List locals_found.Local → List Pair
needs_left binders functions c v ls = flat_map (need_pairs binders functions c v) (locals_meaning ls)

pub needs_next : (binders : List Binder) (functions : List located.Position) (c : Relation) (v : Binder) (ls : List locals_found.Local) (i : ℕ) (l d : locals_found.Local)
    (r s t : Relation) → l ≡ get_or ls i d → i < length ls → Gains (need_pairs binders functions c v (local_meaning l)) r s
    → Gains (needs_left binders functions c v (drop (i + 1) ls)) s t → Gains (needs_left binders functions c v (drop i ls)) r t
needs_next binders functions c v ls i l d r s t is low here after =
    gains_left (needs_left binders functions c v) (λ k. need_pairs binders functions c v (local_meaning k)) (λ k ks. refl) ls i l d r s t is low here after

pub needs_end : (binders : List Binder) (functions : List located.Position) (c : Relation) (v : Binder) (ls : List locals_found.Local) (i : ℕ) (r : Relation)
    → length ls ≤ i → Gains (needs_left binders functions c v (drop i ls)) r r
needs_end binders functions c v ls i r past = subst (λ ys. Gains (needs_left binders functions c v ys) r r) (sym (drop_all i ls past)) (gains_none r)

pub needed_next : (binders : List Binder) (functions : List located.Position) (c : Relation) (ds : List definitions_found.Definition) (i : ℕ) (d : definitions_found.Definition)
    (r s : Relation) → d ≡ get_or ds i d → i < length ds → IsNeeded binders functions c (definitions_meaning (take i ds)) r
    → Gains (definition_pairs binders functions c (definition_meaning d)) r s → IsNeeded binders functions c (definitions_meaning (take (i + 1) ds)) s
needed_next binders functions c ds i d r s is low before gains =
    subst (λ ps. Holds (suc (length binders)) ps s)
    (sym (ap (λ es. flat_map (definition_pairs binders functions c) es) (ap definitions_meaning (take_more ds i d low ∙ ap (λ x. take i ds ++ x ∷ []) (sym is)) ∙ map-append definition_meaning (take i ds) (d ∷ []))
    ∙ one_more (definition_pairs binders functions c) (definitions_meaning (take i ds)) (definition_meaning d)))
    (gains (suc (length binders)) (flat_map (definition_pairs binders functions c) (definitions_meaning (take i ds))) before)

pub needed_end : (binders : List Binder) (functions : List located.Position) (c : Relation) (ds : List definitions_found.Definition) (i : ℕ) (r : Relation) → length ds ≤ i
    → IsNeeded binders functions c (definitions_meaning (take i ds)) r → IsNeeded binders functions c (definitions_meaning ds) r
needed_end binders functions c ds i r past before = subst (λ es. IsNeeded binders functions c (definitions_meaning es) r) (take_all i ds past) before
