-- Free variables and their indices, with one more at the end.
use Rattle.std.proofs.Common.{◌≡◌, ℕ, zero, suc, ◌+◌, List, [], ◌∷◌, ◌++◌, length, length-append, append_assoc, refl, ap, ◌∙◌, arith}
use Rattle.cu_machine.specs.declared.Kind.TheVariants as kind
use Rattle.cu_machine.specs.Graph.{Graph, Node, alone}
use Rattle.cu_machine.specs.State.{free_nodes, numbers}

pub frees_suc : (k : ℕ) → free_nodes (suc k) ≡ free_nodes k ++ alone kind.Free ∷ []
frees_suc zero = refl
frees_suc (suc k) = ap (λ (rest : List Node). alone kind.Free ∷ rest) (frees_suc k)

pub free_more : (k : ℕ) → free_nodes (k + 1) ≡ free_nodes k ++ alone kind.Free ∷ []
free_more k = let e : k + 1 ≡ suc k = omega arith in ap free_nodes e ∙ frees_suc k

pub numbers_suc : (from k : ℕ) → numbers from (suc k) ≡ numbers from k ++ (from + k) ∷ []
numbers_suc from zero = let e : from ≡ from + 0 = omega arith in ap (λ (n : ℕ). n ∷ []) e
numbers_suc from (suc k) =
    let e : from + 1 + k ≡ from + suc k = omega arith in
    ap (λ (rest : List ℕ). from ∷ rest) (numbers_suc (from + 1) k ∙ ap (λ (n : ℕ). numbers (from + 1) k ++ n ∷ []) e)

pub number_more : (from k : ℕ) → numbers from (k + 1) ≡ numbers from k ++ (from + k) ∷ []
number_more from k = let e : k + 1 ≡ suc k = omega arith in ap (numbers from) e ∙ numbers_suc from k

pub length_frees : (k : ℕ) → length (free_nodes k) ≡ k
length_frees zero = refl
length_frees (suc k) = ap suc (length_frees k)

pub ruleset frees = (free_more, number_more, length_frees)

pub push_more : (graph store after : Graph) (places longer : List ℕ) (k place : ℕ) → places ≡ numbers (length graph) k → store ≡ graph ++ free_nodes k
    → place ≡ length store → after ≡ store ++ alone kind.Free ∷ [] → longer ≡ places ++ place ∷ []
    → (longer ≡ numbers (length graph) (k + 1)) × (after ≡ graph ++ free_nodes (k + 1))
push_more graph store after places longer k place numbered prefix at suffix more =
    let there : length store ≡ length graph + k = ap length prefix ∙ (length-append graph (free_nodes k) ∙ ap (λ (n : ℕ). length graph + n) (length_frees k)) in (
      rw (more, numbered, number_more (length graph) k, at, there) refl,
      rw (suffix, prefix, free_more k, append_assoc) refl,
    )
