-- The tables at as many visits as a graph has nodes.
use Rattle.std.proofs.Common.{◌≡◌, ℕ, ◌<◌, ◌≤◌, length}
use Rattle.cu_calculus.specs.declared.ConId.{ConId}
use Rattle.cu_machine.specs.Graph.{Graph, followed, head_at, head_of, head_within, node_at}
use Rattle.cu_machine.specs.Need.{Extent, free_at, free_within, need_at, need_within, rest_at, unless_done}
use Rattle.cu_machine.specs.Rewrite.{occurs_at, occurs_within}
use Rattle.cu_machine.specs.Spell.{spelled, spelled_at, spelled_within}
use Rattle.cu_machine.specs.Validity.{ArgumentsThere, Founded}
use Rattle.cu_machine.proofs.Fuel.{low_enough}
use Rattle.cu_machine.proofs.Visits.{free_once, head_once, need_once, occurs_once, same_later, spelled_once}

-- ---- more visits

pub head_later : (graph : Graph) (id visits : ℕ) → ArgumentsThere graph → Founded graph id → id < length graph → length graph ≤ visits
    → head_within visits graph id ≡ head_of graph id
head_later graph id visits there found below enough =
    same_later (λ n. head_within n graph id) graph id visits there found below (λ n. head_once n graph id) enough

pub need_later : (truth : ConId) (graph : Graph) (extent : Extent) (id visits : ℕ) → ArgumentsThere graph → Founded graph id → id < length graph
    → length graph ≤ visits → need_within visits truth graph extent id ≡ need_within (length graph) truth graph extent id
need_later truth graph extent id visits there found below enough =
    same_later (λ n. need_within n truth graph extent id) graph id visits there found below (λ n. need_once n truth graph extent id) enough

pub free_later : (graph : Graph) (id visits : ℕ) → ArgumentsThere graph → Founded graph id → id < length graph → length graph ≤ visits
    → free_within visits graph id ≡ free_within (length graph) graph id
free_later graph id visits there found below enough =
    same_later (λ n. free_within n graph id) graph id visits there found below (λ n. free_once n graph id) enough

pub spelled_later : (graph : Graph) (id visits : ℕ) → ArgumentsThere graph → Founded graph id → id < length graph → length graph ≤ visits
    → spelled_within visits graph id ≡ spelled graph id
spelled_later graph id visits there found below enough =
    same_later (λ n. spelled_within n graph id) graph id visits there found below (λ n. spelled_once n graph id) enough

pub occurs_later : (graph : Graph) (v id visits : ℕ) → ArgumentsThere graph → Founded graph id → id < length graph → length graph ≤ visits
    → occurs_within visits graph v id ≡ occurs_within (length graph) graph v id
occurs_later graph v id visits there found below enough =
    same_later (λ n. occurs_within n graph v id) graph id visits there found below (λ n. occurs_once n graph v id) enough

-- ---- the tables

pub head_table : (graph : Graph) (id : ℕ) → ArgumentsThere graph → Founded graph id → id < length graph
    → head_of graph id ≡ followed (head_of graph) id (node_at graph id).kind (node_at graph id).args
unfolding head_within
head_table graph id there found below = head_once (length graph) graph id (low_enough graph id there found below)

pub need_table : (truth : ConId) (graph : Graph) (extent : Extent) (id : ℕ) → ArgumentsThere graph → Founded graph id → id < length graph
    → need_within (length graph) truth graph extent id
    ≡ unless_done (need_at truth graph (need_within (length graph) truth graph) (head_of graph id) (head_at graph id).kind (head_at graph id).args)
    (rest_at (need_within (length graph) truth graph) extent (head_at graph id).kind (head_at graph id).args)
unfolding need_within
need_table truth graph extent id there found below = need_once (length graph) truth graph extent id (low_enough graph id there found below)

pub free_table : (graph : Graph) (id : ℕ) → ArgumentsThere graph → Founded graph id → id < length graph
    → free_within (length graph) graph id ≡ free_at (free_within (length graph) graph) (head_of graph id) (head_at graph id).kind (head_at graph id).args
unfolding free_within
free_table graph id there found below = free_once (length graph) graph id (low_enough graph id there found below)

pub spelled_table : (graph : Graph) (id : ℕ) → ArgumentsThere graph → Founded graph id → id < length graph
    → spelled graph id ≡ spelled_at (spelled graph) (head_of graph id) (head_at graph id).kind (head_at graph id).args
unfolding spelled_within
spelled_table graph id there found below = spelled_once (length graph) graph id (low_enough graph id there found below)

pub occurs_table : (graph : Graph) (v id : ℕ) → ArgumentsThere graph → Founded graph id → id < length graph
    → occurs_within (length graph) graph v id
    ≡ occurs_at (occurs_within (length graph) graph v) v (head_of graph id) (head_at graph id).kind (head_at graph id).args
unfolding occurs_within
occurs_table graph v id there found below = occurs_once (length graph) graph v id (low_enough graph id there found below)
