-- Entities, each once.
use Rattle.std.proofs.Common.{◌≡◌, ◌∙◌, ◌||◌, ◌&&◌, not, Bool, true, false, List, [], ◌∷◌, ◌++◌, refl, sym, ap, if◌then◌else◌, true≢false, append-nil}
use Rattle.std.proofs.lemmas.Bool.{and_parts}
use Rattle.std.proofs.lemmas.List.Elements.{filter-append}
use Rattle.std.proofs.lemmas.Slice.Eq.{bytes_eq-Decides}
use Rattle.std.specs.List.{filter, list_any}
use Rattle.std.specs.Str.{bytes_eq}
use Rattle.cu_entities.specs.EntitySets.{alike}
use Rattle.cu_entities.specs.Entities.{Entity, Space, Types, Values, distinct, same_entity, same_space, space_of}

-- ---- one entity more

or_true : (b : Bool) → (b || true) ≡ true
or_true true = refl
or_true false = refl

pub step : (x e : Entity) (ds : List Entity) (any : Bool)
    → x ∷ filter (λ f. not (same_entity x f)) (if any then ds else ds ++ e ∷ [])
    ≡ (if same_entity x e || any then x ∷ filter (λ f. not (same_entity x f)) ds else (x ∷ filter (λ f. not (same_entity x f)) ds) ++ e ∷ [])
step x e ds true = ap (λ b. if b then x ∷ filter (λ f. not (same_entity x f)) ds else (x ∷ filter (λ f. not (same_entity x f)) ds) ++ e ∷ []) (sym (or_true (same_entity x e)))
step x e ds false =
    ap (λ more. x ∷ more) (filter-append (λ f. not (same_entity x f)) ds (e ∷ []))
    ∙ last (same_entity x e)
  where
    last : (b : Bool) → x ∷ filter (λ f. not (same_entity x f)) ds ++ (if not b then e ∷ [] else [])
        ≡ (if b || false then x ∷ filter (λ f. not (same_entity x f)) ds else (x ∷ filter (λ f. not (same_entity x f)) ds) ++ e ∷ [])
    last true = append-nil (x ∷ filter (λ f. not (same_entity x f)) ds)
    last false = refl

pub grown : (xs : List Entity) (e : Entity) → distinct (xs ++ e ∷ []) ≡ (if list_any (alike e) xs then distinct xs else distinct xs ++ e ∷ [])
grown [] e = refl
grown (x ∷ xs) e = ap (λ ds. x ∷ filter (λ f. not (same_entity x f)) ds) (grown xs e) ∙ step x e (distinct xs) (list_any (alike e) xs)

-- ---- entities that are one

same_space-equal : (a b : Space) → same_space a b ≡ true → a ≡ b
same_space-equal Types Types e = refl
same_space-equal Values Values e = refl
same_space-equal Types Values e = let wrong : ⊥ = true≢false (sym e) in absurd wrong
same_space-equal Values Types e = let wrong : ⊥ = true≢false (sym e) in absurd wrong

-- what is one with an entity is so with whatever that is one with
pub alike_as : (x f e : Entity) → same_entity x f ≡ true → same_entity x e ≡ same_entity f e
alike_as x f e is =
    let owners = and_parts (bytes_eq x.owner f.owner) (bytes_eq x.name f.name && same_space (space_of x.sort) (space_of f.sort)) is in
    let names = and_parts (bytes_eq x.name f.name) (same_space (space_of x.sort) (space_of f.sort)) owners.1 in
    let spaces = same_space-equal (space_of x.sort) (space_of f.sort) names.1 in
    λ j. bytes_eq ((bytes_eq-Decides x.owner f.owner).0 owners.0 j) e.owner && (bytes_eq ((bytes_eq-Decides x.name f.name).0 names.0 j) e.name && same_space (spaces j) (space_of e.sort))

-- among others without those that are one with x
kept_any : (x e : Entity) (ds : List Entity) → (same_entity x e || list_any (alike e) (filter (λ f. not (same_entity x f)) ds)) ≡ (same_entity x e || list_any (alike e) ds)
kept_any x e [] = refl
kept_any x e (f ∷ ds) = by (same_entity x f) refl (kept_any x e ds)
  where
    swap : (a b c d : Bool) → (a || c) ≡ (a || d) → (a || (b || c)) ≡ (a || (b || d))
    swap true b c d h = refl
    swap false true c d h = refl
    swap false false c d h = h

    gone : (a b c d : Bool) → a ≡ b → (a || c) ≡ (a || d) → (a || c) ≡ (a || (b || d))
    gone true b c d same h = refl
    gone false true c d same h = let wrong : ⊥ = true≢false (sym same) in absurd wrong
    gone false false c d same h = h

    by : (b : Bool) → same_entity x f ≡ b → (same_entity x e || list_any (alike e) (filter (λ f. not (same_entity x f)) ds)) ≡ (same_entity x e || list_any (alike e) ds)
        → (same_entity x e || list_any (alike e) (if not b then f ∷ filter (λ f. not (same_entity x f)) ds else filter (λ f. not (same_entity x f)) ds)) ≡ (same_entity x e || (same_entity f e || list_any (alike e) ds))
    by true is ih = gone (same_entity x e) (same_entity f e) (list_any (alike e) (filter (λ f. not (same_entity x f)) ds)) (list_any (alike e) ds) (alike_as x f e is) ih
    by false is ih = swap (same_entity x e) (same_entity f e) (list_any (alike e) (filter (λ f. not (same_entity x f)) ds)) (list_any (alike e) ds) ih

pub among_distinct : (e : Entity) (xs : List Entity) → list_any (alike e) (distinct xs) ≡ list_any (alike e) xs
among_distinct e [] = refl
among_distinct e (x ∷ xs) = kept_any x e (distinct xs) ∙ ap (λ b. same_entity x e || b) (among_distinct e xs)
