-- Nodes over pairs, and what joins them.
use Rattle.std.proofs.Common.{◌≡◌, ℕ, suc, ◌+◌, ◌-◌, ◌<◌, ◌≤◌, List, [], ◌∷◌, ◌++◌, length, length-append, append_assoc, refl, ap, sym, ◌∙◌, arith}
use Rattle.cu_machine.specs.declared.Kind.{Kind}
use Rattle.cu_machine.specs.Build.{Built, place_of, pushed}
use Rattle.cu_machine.specs.Graph.{Graph, Node, put}
use Rattle.cu_machine.specs.Rewrite.{joined_from_right, pair_nodes}
use Rattle.cu_step.specs.Inside.Pairs.{over_pairs}

pub length_pairs : (each : Kind) (pairs : List (ℕ × ℕ)) → length (pair_nodes each pairs) ≡ length pairs
length_pairs each [] = refl
length_pairs each ((a, b) ∷ pairs) = ap suc (length_pairs each pairs)

pub joins_suc : (joint : Kind) (graph store after : Graph) (left more place next : ℕ)
    → store ≡ graph ++ pushed (joined_from_right joint (length graph) (left + 1) more)
    → place ≡ place_of (length graph) (joined_from_right joint (length graph) (left + 1) more)
    → next ≡ length store → after ≡ store ++ record { kind = joint; args = left ∷ place ∷ [] } ∷ []
    → (after ≡ graph ++ pushed (joined_from_right joint (length graph) left (suc more)))
    × (next ≡ place_of (length graph) (joined_from_right joint (length graph) left (suc more)))
joins_suc joint graph store after left more place next prefix at there suffix = (
  rw (suffix, prefix, at, append_assoc) refl,
  there ∙ (ap length prefix ∙ length-append graph (pushed (joined_from_right joint (length graph) (left + 1) more))),
)

pub joins_more : (joint : Kind) (graph store after : Graph) (last left place next : ℕ) → 0 < left → left ≤ last
    → store ≡ graph ++ pushed (joined_from_right joint (length graph) left (last - left))
    → place ≡ place_of (length graph) (joined_from_right joint (length graph) left (last - left))
    → next ≡ length store → after ≡ store ++ record { kind = joint; args = (left - 1) ∷ place ∷ [] } ∷ []
    → (after ≡ graph ++ pushed (joined_from_right joint (length graph) (left - 1) (last - (left - 1))))
    × (next ≡ place_of (length graph) (joined_from_right joint (length graph) (left - 1) (last - (left - 1))))
joins_more joint graph store after last left place next some within prefix at there suffix =
    let one : left ≡ left - 1 + 1 = omega arith in
    let more : last - (left - 1) ≡ suc (last - left) = omega arith in
    let made =
    joins_suc joint graph store after (left - 1) (last - left) place next
    (prefix ∙ ap (λ (n : ℕ). graph ++ pushed (joined_from_right joint (length graph) n (last - left))) one)
    (at ∙ ap (λ (n : ℕ). place_of (length graph) (joined_from_right joint (length graph) n (last - left))) one) there suffix in (
      made.0 ∙ ap (λ (n : ℕ). graph ++ pushed (joined_from_right joint (length graph) (left - 1) n)) (sym more),
      made.1 ∙ ap (λ (n : ℕ). place_of (length graph) (joined_from_right joint (length graph) (left - 1) n)) (sym more),
    )

-- what is written over several pairs
pub many_pairs : (each joint : Kind) (graph middle before after : Graph) (id first last others : ℕ) (pairs : List (ℕ × ℕ)) → 1 < length pairs
    → first ≡ length graph → middle ≡ graph ++ pair_nodes each pairs → last ≡ length middle - 1
    → before ≡ middle ++ pushed (joined_from_right joint (length middle) (first + 1) (last - (first + 1)))
    → others ≡ place_of (length middle) (joined_from_right joint (length middle) (first + 1) (last - (first + 1)))
    → after ≡ put before id (record { kind = joint; args = first ∷ others ∷ [] })
    → after ≡ over_pairs each joint graph id pairs
many_pairs each joint graph middle before after id first last others [] many begins pushes ends joins at write =
    let no : ⊥ = omega arith in absurd no
many_pairs each joint graph middle before after id first last others (p ∷ []) many begins pushes ends joins at write =
    let no : ⊥ = omega arith in absurd no
many_pairs each joint graph middle before after id first last others (p ∷ q ∷ pairs) many begins pushes ends joins at write =
    let nodes : List Node = pair_nodes each (p ∷ q ∷ pairs) in
    let long : length middle ≡ length graph + length nodes = ap length pushes ∙ length-append graph nodes in
    let count : length nodes ≡ suc (suc (length pairs)) = length_pairs each (p ∷ q ∷ pairs) in
    let more : last - (first + 1) ≡ length pairs = omega arith in
    let rest : Built = joined_from_right joint (length graph + length nodes) (length graph + 1) (length pairs) in
    let same : joined_from_right joint (length middle) (first + 1) (last - (first + 1)) ≡ rest = rw (more, long, begins) refl in
    let whole : before ≡ graph ++ (nodes ++ pushed rest) =
    joins ∙ (ap (λ (b : Built). middle ++ pushed b) same ∙ (ap (λ (m : Graph). m ++ pushed rest) pushes ∙ append_assoc graph nodes (pushed rest))) in
    let place : others ≡ place_of (length graph + length nodes) rest =
    at ∙ (ap (λ (b : Built). place_of (length middle) b) same ∙ ap (λ (n : ℕ). place_of n rest) long) in
    let suced : length pairs + 1 ≡ suc (length pairs) = omega arith in
    rw (suced, write, whole, place, begins) refl

pub pairs_there : (each : Kind) (graph middle : Graph) (pairs : List (ℕ × ℕ)) → middle ≡ graph ++ pair_nodes each pairs
    → length middle ≡ length graph + length pairs
pairs_there each graph middle pairs is =
    ap length is ∙ (length-append graph (pair_nodes each pairs) ∙ ap (λ (n : ℕ). length graph + n) (length_pairs each pairs))
