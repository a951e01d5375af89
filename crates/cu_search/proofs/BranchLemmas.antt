-- The branches of a level, and those that follow its outcomes.
use Rattle.std.proofs.Common.{◌≡◌, zero, suc, List, [], ◌∷◌, ◌++◌, ◌<◌, flat_map, length, map, refl, ap, subst, ◌∙◌, arith}
use Rattle.std.specs.List.{All}
use Rattle.std.proofs.lemmas.List.{get_or-map, length-map, map-append}
use Rattle.std.proofs.lemmas.List.Elements.{All-append, All-nil}
use Rattle.cu_calculus.specs.Code.{Code}
use Rattle.cu_graph.specs.declared.store.Store.{Ghosts}
use Rattle.cu_machine.specs.Graph.{Graph}
use Rattle.cu_machine.specs.Level.{go_list}
use Rattle.cu_machine.specs.State.{State}
use Rattle.cu_machine.specs.Validity.{IsValid}
use Rattle.cu_pile.specs.Outcomes.{Pairwise}
use Rattle.cu_step.specs.declared.branch.BranchOver.{BranchOver}
use Rattle.cu_step.specs.declared.focus.Focus.{Focus}
use Rattle.cu_step.specs.declared.Outcome.{Outcome}
use Rattle.cu_step.specs.declared.Outcome.TheVariants as outcome
use Rattle.cu_step.specs.Outcome.{branches_of, next_of, state_of}

-- a branch that stands for a valid state
abbrev pub IsValidBranch : {S : Type 0} {G : Ghosts S} → (S → Graph) → Code → BranchOver (Focus S G) → Type 0
IsValidBranch content program branch = IsValid program (state_of content branch)

-- an outcome after which valid branches follow
abbrev pub HasValid : {S : Type 0} {G : Ghosts S} → (S → Graph) → Code → Outcome S G → Type 0
HasValid content program outcome = All (IsValidBranch content program) (branches_of outcome)

-- one element and others
pub all-cons : {X : Type 0} (P : X → Type 0) (x : X) (xs : List X) → P x → All P xs → All P (x ∷ xs)
all-cons P x xs first others zero d below = first
all-cons P x xs first others (suc k) d below = others k d (omega (arith, below))

-- what a round promises of each item, where it tells f of the outcome from g of the item
pub pairwise-map : {I O N : Type 0} (promises : I → O → Type 0) (f : O → N) (g : I → N)
    → ((item : I) (outcome : O) → promises item outcome → f outcome ≡ g item)
    → (items : List I) (outcomes : List O) → Pairwise promises items outcomes → map f outcomes ≡ map g items
pairwise-map promises f g tells [] [] h = refl
pairwise-map promises f g tells [] (outcome ∷ outcomes) h = absurd h
pairwise-map promises f g tells (item ∷ items) [] h = absurd h
pairwise-map promises f g tells (item ∷ items) (outcome ∷ outcomes) h =
    ap (λ x. x ∷ map f outcomes) (tells item outcome h.0) ∙ ap (λ xs. g item ∷ xs) (pairwise-map promises f g tells items outcomes h.1)

-- and where it tells a fact of the outcome
pub pairwise-all : {I O : Type 0} (promises : I → O → Type 0) (P : O → Type 0)
    → ((item : I) (outcome : O) → promises item outcome → P outcome)
    → (items : List I) (outcomes : List O) → Pairwise promises items outcomes → All P outcomes
pairwise-all promises P tells [] [] h = All-nil P
pairwise-all promises P tells [] (outcome ∷ outcomes) h = absurd h
pairwise-all promises P tells (item ∷ items) [] h = absurd h
pairwise-all promises P tells (item ∷ items) (outcome ∷ outcomes) h =
    all-cons P outcome outcomes (tells item outcome h.0) (pairwise-all promises P tells items outcomes h.1)

-- the states that follow one outcome, and those that follow several
states-of_one : {S : Type 0} {G : Ghosts S} (content : S → Graph) (outcome : Outcome S G) → map (state_of content) (branches_of outcome) ≡ go_list (next_of content outcome)
states-of_one content (outcome.On branch) = refl
states-of_one content (outcome.Go branches) = refl
states-of_one content (outcome.Answer reading) = refl
states-of_one content outcome.Fail = refl
states-of_one content (outcome.Wait names) = refl
states-of_one content (outcome.Stop stop) = refl
states-of_one content (outcome.Inner branch) = refl

pub states-follow : {S : Type 0} {G : Ghosts S} (content : S → Graph) (outcomes : List (Outcome S G))
    → map (state_of content) (flat_map branches_of outcomes) ≡ flat_map go_list (map (next_of content) outcomes)
states-follow content [] = refl
states-follow content (outcome ∷ outcomes) =
    map-append (state_of content) (branches_of outcome) (flat_map branches_of outcomes)
    ∙ ap (λ (prefix : List State). prefix ++ map (state_of content) (flat_map branches_of outcomes)) (states-of_one content outcome)
    ∙ ap (λ (suffix : List State). go_list (next_of content outcome) ++ suffix) (states-follow content outcomes)

-- what holds of the branches of each outcome holds of those that follow all
pub all-follow : {S : Type 0} {G : Ghosts S} (P : BranchOver (Focus S G) → Type 0) (outcomes : List (Outcome S G)) → All (λ outcome. All P (branches_of outcome)) outcomes
    → All P (flat_map branches_of outcomes)
all-follow P [] all = All-nil P
all-follow P (outcome ∷ outcomes) all =
    All-append P (branches_of outcome) (flat_map branches_of outcomes) (all 0 outcome (omega arith))
    (all-follow P outcomes (λ k d below. all (suc k) d (omega (arith, below))))

-- what holds of each image holds of each element's
pub all-of_map : {X Y : Type 0} (P : Y → Type 0) (f : X → Y) (xs : List X) → All P (map f xs) → All (λ x. P (f x)) xs
all-of_map P f xs all = λ k d below.
    let in_map : k < length (map f xs) = omega (arith, length-map xs f, below) in
    subst P (get_or-map f xs k d (f d) below) (all k (f d) in_map)
