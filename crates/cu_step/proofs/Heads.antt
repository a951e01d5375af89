-- A head is found by following one Ind after the other.
use Rattle.std.proofs.Common.{◌≡◌, ℕ, zero, suc, List, [], ◌∷◌, None, Some, refl, ap₂, sym, ◌∙◌}
use Rattle.cu_machine.specs.declared.Kind.{Kind}
use Rattle.cu_machine.specs.declared.Kind.TheVariants as kind
use Rattle.cu_machine.specs.Graph.{Graph, followed, head_of, head_within, node_at}
use Rattle.cu_step.specs.Inside.Head.{target_of}

follows : (follow : ℕ → ℕ) (id target : ℕ) (k : Kind) (args : List ℕ) → Some target ≡ target_of k args → followed follow id k args ≡ follow target
follows follow id target kind.Ind (x ∷ args) found = let same : target ≡ x = cc in rw same refl
follows follow id target kind.Ind [] found = let no : ⊥ = cc in absurd no
follows follow id target _ args found = let no : ⊥ = cc in absurd no

stays : (follow : ℕ → ℕ) (id : ℕ) (k : Kind) (args : List ℕ) → None ≡ target_of k args → followed follow id k args ≡ id
stays follow id kind.Ind (x ∷ args) none = let no : ⊥ = cc in absurd no
stays follow id kind.Ind [] none = refl
stays follow id _ args none = refl

pub one_further : (visits more : ℕ) (graph : Graph) (id target : ℕ) → visits ≡ suc more → Some target ≡ target_of (node_at graph id).kind (node_at graph id).args
    → head_within visits graph id ≡ head_within more graph target
unfolding head_within
one_further visits more graph id target count found = rw count (follows (head_within more graph) id target (node_at graph id).kind (node_at graph id).args found)

at_head : (visits : ℕ) (graph : Graph) (id : ℕ) → None ≡ target_of (node_at graph id).kind (node_at graph id).args → head_within visits graph id ≡ id
unfolding head_within
at_head zero graph id none = refl
at_head (suc visits) graph id none = stays (head_within visits graph) id (node_at graph id).kind (node_at graph id).args none

no_visits : (visits : ℕ) (graph : Graph) (id : ℕ) → visits ≡ 0 → head_within visits graph id ≡ id
unfolding head_within
no_visits visits graph id none = rw none refl

-- where a node leads, as it was read
pub read_target : (graph : Graph) (id : ℕ) (k : Kind) (args : List ℕ) → k ≡ (node_at graph id).kind → args ≡ (node_at graph id).args
    → target_of k args ≡ target_of (node_at graph id).kind (node_at graph id).args
read_target graph id k args kinds same = ap₂ (λ (k : Kind) (xs : List ℕ). target_of k xs) kinds same

-- the head is where a node leads nowhere, or no visits are left
pub head_read : (visits : ℕ) (graph : Graph) (id head : ℕ) (k : Kind) (args : List ℕ) → k ≡ (node_at graph head).kind → args ≡ (node_at graph head).args
    → None ≡ target_of k args → head_within visits graph head ≡ head_of graph id → head ≡ head_of graph id
head_read visits graph id head k args kinds same none is = sym (at_head visits graph head (none ∙ read_target graph head k args kinds same)) ∙ is

pub last_visited : (visits : ℕ) (graph : Graph) (id head : ℕ) → visits ≡ 0 → head_within visits graph head ≡ head_of graph id → head ≡ head_of graph id
last_visited visits graph id head none is = sym (no_visits visits graph head none) ∙ is
