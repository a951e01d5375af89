-- Graphs in which each node stands after its arguments have no cycle.
use Rattle.std.proofs.Common.{◌≡◌, ℕ, zero, suc, ◌<◌, ◌≤◌, true, List, [], ◌∷◌, length, ltb, arith}
use Rattle.std.proofs.lemmas.Bool.{lt-ltb, ltb-true}
use Rattle.cu_machine.specs.Graph.{Graph, node_at}
use Rattle.cu_machine.specs.Validity.{AllFounded, ArgumentsThere, Founded, IsAcyclic, are_places, founded, more, none}
use Rattle.cu_machine.proofs.Fuel.{all_follow, left_true, right_true}

-- the first nodes stand after their arguments
abbrev pub IsOrdered : Graph → ℕ → Type 0
IsOrdered graph count = (id : ℕ) → id < count → are_places id (node_at graph id).args ≡ true

places_later : (low high : ℕ) (ids : List ℕ) → low ≤ high → are_places low ids ≡ true → are_places high ids ≡ true
places_later low high ids less all =
    all_follow (λ id. ltb id low) (λ id. ltb id high) ids
    (λ id below. (let under : id < low = ltb-true id low below in lt-ltb id high (omega arith))) all

pub ordered_there : (graph : Graph) (count : ℕ) → length graph ≤ count → IsOrdered graph count → ArgumentsThere graph
ordered_there graph count all ordered id below = places_later id (length graph) (node_at graph id).args (omega arith) (ordered id (omega arith))

all_founded : (graph : Graph) (id : ℕ) (ids : List ℕ) → ((x : ℕ) → x < id → Founded graph x) → are_places id ids ≡ true → AllFounded graph ids
all_founded graph id [] part all = none
all_founded graph id (x ∷ ids) part all =
    more x ids (part x (ltb-true x id (left_true (ltb x id) (are_places id ids) all)))
    (all_founded graph id ids part (right_true (ltb x id) (are_places id ids) all))

founded_below : (graph : Graph) (count : ℕ) → IsOrdered graph count → (n id : ℕ) → id < n → id < count → Founded graph id
founded_below graph count ordered zero id less below = let no : ⊥ = omega arith in absurd no
founded_below graph count ordered (suc n) id less below =
    founded id (all_founded graph id (node_at graph id).args (λ x under. founded_below graph count ordered n x (omega arith) (omega arith)) (ordered id below))

pub ordered_acyclic : (graph : Graph) (count : ℕ) → length graph ≤ count → IsOrdered graph count → IsAcyclic graph
ordered_acyclic graph count all ordered id below = founded_below graph count ordered (length graph) id below (omega arith)
