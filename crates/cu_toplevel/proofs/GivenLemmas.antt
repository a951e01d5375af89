-- Tables of what is built in, one entry after another.
use Rattle.std.proofs.Common.{◌≡◌, ◌∙◌, ℕ, ◌+◌, ◌<◌, ◌≤◌, List, [], ◌∷◌, ◌++◌, Some, map, take, take_all, get_or, length, sym, ap, subst, append-nil, append_assoc, arith}
use Rattle.std.proofs.lemmas.List.{get_or-map, length-map, map_more}
use Rattle.std.proofs.lemmas.List.Elements.{All-append, All-cons}
use Rattle.std.specs.List.{All, Contains}
use Rattle.std.specs.Prelude.{codes, slice_get}
use Rattle.cu_modules.specs.BuiltInEntities.{HasBuiltIn, literal_names, single_names}
use Rattle.cu_names.proofs.Growth.{known_at, text_of-at}
use Rattle.cu_names.specs.declared.names.NameId.{NameId}
use Rattle.cu_names.specs.Texts.{IsKnown, text_of}
use Rattle.cu_toplevel.specs.declared.listing.Declared as code
use Rattle.cu_toplevel.specs.declared.listing.Listing.{Listing}
use Rattle.cu_toplevel.specs.Listings.{DeclaredIsKnown, IsListing, declared_meaning}
use Rattle.cu_calculus.specs.Valid.{external_arity}
use Rattle.cu_translation.specs.Around.{tuple_name}
use Rattle.cu_translation.specs.Externals.{External, externals}
use Rattle.cu_translation.specs.Numbered.{Declared, declared, tuple_sizes}

abbrev pub coded : NameId → NameId → ℕ → code.Declared
coded owner id arity = record { owner = owner; name = id; arity = arity }

pub there_at : {G : Type 0} (text : G → List ℕ) (names : List (List ℕ)) (given : List G) (i : ℕ) (d : G) → i < length given → All (Contains names) (map text given)
    → Contains names (text (get_or given i d))
there_at text names given i d within there =
    subst (Contains names) (get_or-map text given i d (text d) within) (there i (text d) (subst (λ n. i < n) (sym (length-map given text)) within))

pub none_yet : (names : List (List ℕ)) (before : List Declared) (l : Listing) → IsListing names before l → IsListing names (before ++ []) l
none_yet names before l has = subst (λ ds. IsListing names ds l) (sym (append-nil before)) has

-- what a table's entry stands for, where it has a text and a number of parameters
abbrev pub entry_as : {G : Type 0} → (G → List ℕ) → (G → ℕ) → List ℕ → G → Declared
entry_as text arity owner g = declared owner (text g) (arity g)

pub given_more : {G : Type 0} (text : G → List ℕ) (arity : G → ℕ) (names : List (List ℕ)) (before : List Declared) (given : List G) (i : ℕ) (d : G) (owner id : NameId) (n : ℕ) (old new : Listing)
    → i < length given → IsKnown names owner → slice_get names id.0 ≡ Some (text (get_or given i d)) → n ≡ arity (get_or given i d)
    → ((all : List Declared) → DeclaredIsKnown names (coded owner id n) → IsListing names all old → IsListing names (all ++ declared_meaning names (coded owner id n) ∷ []) new)
    → IsListing names (before ++ map (entry_as text arity (text_of names owner)) (take i given)) old
    → IsListing names (before ++ map (entry_as text arity (text_of names owner)) (take (i + 1) given)) new
given_more {G} text arity names before given i d owner id n old new within known at counted adds has =
    let f : G → Declared = entry_as text arity (text_of names owner) in
    let g = get_or given i d in
    let done = map f (take i given) in
    let means : declared_meaning names (coded owner id n) ≡ f g = λ j. declared (text_of names owner) (text_of-at names id (text g) at j) (counted j) in
    let whole : (before ++ done) ++ declared_meaning names (coded owner id n) ∷ [] ≡ before ++ map f (take (i + 1) given) =
    append_assoc before done (declared_meaning names (coded owner id n) ∷ [])
    ∙ ap (λ (e : Declared). before ++ (done ++ e ∷ [])) means ∙ ap (λ ds. before ++ ds) (sym (map_more f given i d within)) in
    subst (λ (ds : List Declared). IsListing names ds new) whole (adds (before ++ done) (record { owner = known; name = known_at names id (text g) at }) has)

pub all_given : {G : Type 0} (f : G → Declared) (names : List (List ℕ)) (before : List Declared) (given : List G) (i : ℕ) (l : Listing) → length given ≤ i
    → IsListing names (before ++ map f (take i given)) l → IsListing names (before ++ map f given) l
all_given f names before given i l done has = subst (λ given. IsListing names (before ++ map f given) l) (take_all i given done) has

-- the same tables, of a module of any name
abbrev pub types_for : List ℕ → List Declared
types_for o =
    (declared o (codes "[]") 1 ∷ declared o (codes "()") 0 ∷ map (λ n. declared o (tuple_name n) n) tuple_sizes) ++
    (declared o (codes "Int") 0 ∷ declared o (codes "Char") 0 ∷ [])

abbrev pub constructors_for : List ℕ → List Declared
constructors_for o =
    declared o (codes "[]") 0 ∷ declared o (codes ":") 2 ∷ declared o (codes "()") 0 ∷ map (λ n. declared o (tuple_name n) n) tuple_sizes

abbrev pub externals_for : List ℕ → List Declared
externals_for o = map (λ (e : External). declared o e.name (external_arity e.operation)) externals

abbrev pub sets_for : List ℕ → ℕ → List (List ℕ) → List Declared
sets_for o n [] = []
sets_for o n (t ∷ texts) = declared o t n ∷ sets_for o (n + 1) texts

pub types_there : (names : List (List ℕ)) → HasBuiltIn names → All (Contains names) ((codes "[]" ∷ single_names) ++ literal_names)
types_there names has =
    All-append (Contains names) (codes "[]" ∷ single_names) literal_names
    (All-cons (Contains names) (codes "[]") single_names (has.lists 0 [] (omega arith)) has.singles) has.literals

pub constructors_there : (names : List (List ℕ)) → HasBuiltIn names → All (Contains names) ((codes "[]" ∷ codes ":" ∷ []) ++ single_names)
constructors_there names has = All-append (Contains names) (codes "[]" ∷ codes ":" ∷ []) single_names has.lists has.singles
