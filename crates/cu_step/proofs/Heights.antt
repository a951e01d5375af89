-- On a graph without cycles an argument is lower than its node, and a head no higher.
use Rattle.std.proofs.Common.{◌≡◌, ℕ, zero, suc, ◌<◌, ◌≤◌, Bool, true, List, [], ◌∷◌, IsTrue, refl, ap, ap₂, length, max, get_or, nat_lt, arith, ltb-true}
use Rattle.std.specs.List.{list_all}
use Rattle.cu_machine.specs.declared.Kind.{Kind}
use Rattle.cu_machine.specs.declared.Kind.TheVariants as kind
use Rattle.cu_machine.specs.Graph.{Graph, followed, head_within, node_at}
use Rattle.cu_machine.specs.Validity.{ArgumentsThere, IsAcyclic, are_places}
use Rattle.cu_machine.proofs.Fuel.{is_low, left_true, low_enough, right_true}
use Rattle.cu_machine.proofs.Visits.{never_low}
use Rattle.cu_step.specs.Inside.Walk.{height, height_within, highest}

highest_agrees : (p : ℕ → Bool) (f g : ℕ → ℕ) (xs : List ℕ) → ((x : ℕ) → p x ≡ true → f x ≡ g x) → list_all p xs ≡ true → highest f xs ≡ highest g xs
unfolding highest
highest_agrees p f g [] same low = refl
highest_agrees p f g (x ∷ xs) same low =
    ap₂ max (same x (left_true (p x) (list_all p xs) low)) (highest_agrees p f g xs same (right_true (p x) (list_all p xs) low))

height_once : (n : ℕ) (graph : Graph) (id : ℕ) → is_low n graph id ≡ true → height_within n graph id ≡ height_within (suc n) graph id
unfolding is_low height_within
height_once zero graph id low = never_low graph id low
height_once (suc n) graph id low =
    ap suc (highest_agrees (is_low n graph) (height_within n graph) (height_within (suc n) graph) (node_at graph id).args (height_once n graph) low)

pub height_table : (graph : Graph) (id : ℕ) → ArgumentsThere graph → IsAcyclic graph → id < length graph
    → height graph id ≡ suc (highest (height graph) (node_at graph id).args)
unfolding height_within
height_table graph id there acyclic below = height_once (length graph) graph id (low_enough graph id there (acyclic id below) below)

at_most_highest : (f : ℕ → ℕ) (xs : List ℕ) (i : ℕ) → i < length xs → f (get_or xs i 0) ≤ highest f xs
unfolding highest
at_most_highest f [] i within = let no : ⊥ = omega arith in absurd no
at_most_highest f (x ∷ xs) zero within = omega arith
at_most_highest f (x ∷ xs) (suc i) within = let rest = at_most_highest f xs i (omega arith) in omega arith

pub argument_lower : (graph : Graph) (id i : ℕ) → ArgumentsThere graph → IsAcyclic graph → id < length graph → i < length (node_at graph id).args
    → height graph (get_or (node_at graph id).args i 0) < height graph id
argument_lower graph id i there acyclic below within =
    let table = height_table graph id there acyclic below in
    let most = at_most_highest (height graph) (node_at graph id).args i within in
    omega arith

place_there : (n : ℕ) (xs : List ℕ) (i : ℕ) → i < length xs → IsTrue (are_places n xs) → get_or xs i 0 < n
place_there n [] i within all = let no : ⊥ = omega arith in absurd no
place_there n (x ∷ xs) zero within all = ltb-true x n (left_true (nat_lt x n) (are_places n xs) all)
place_there n (x ∷ xs) (suc i) within all = place_there n xs i (omega arith) (right_true (nat_lt x n) (are_places n xs) all)

pub argument_there : (graph : Graph) (id i : ℕ) → ArgumentsThere graph → id < length graph → i < length (node_at graph id).args
    → get_or (node_at graph id).args i 0 < length graph
argument_there graph id i there below within = place_there (length graph) (node_at graph id).args i within (there id below)

-- a node that is there and no higher than another
abbrev NoHigher : Graph → ℕ → ℕ → Type 0
NoHigher graph id other = (id < length graph) × (height graph id ≤ height graph other)

followed_lower : (graph : Graph) (follow : ℕ → ℕ) (id : ℕ) (k : Kind) (args : List ℕ) → ((x : ℕ) → x < length graph → NoHigher graph (follow x) x)
    → id < length graph → IsTrue (are_places (length graph) args) → highest (height graph) args < height graph id → NoHigher graph (followed follow id k args) id
unfolding highest
followed_lower graph follow id kind.Ind (other ∷ args) lower below there high =
    let next = lower other (ltb-true other (length graph) (left_true (nat_lt other (length graph)) (are_places (length graph) args) there)) in
    (next.0, omega arith)
followed_lower graph follow id kind.Ind [] lower below there high = (below, omega arith)
followed_lower graph follow id _ args lower below there high = (below, omega arith)

pub head_lower : (visits : ℕ) (graph : Graph) (id : ℕ) → ArgumentsThere graph → IsAcyclic graph → id < length graph → NoHigher graph (head_within visits graph id) id
unfolding head_within
head_lower zero graph id there acyclic below = (below, omega arith)
head_lower (suc visits) graph id there acyclic below =
    let table = height_table graph id there acyclic below in
    followed_lower graph (head_within visits graph) id (node_at graph id).kind (node_at graph id).args
    (λ x less. head_lower visits graph x there acyclic less) below (there id below) (omega arith)
