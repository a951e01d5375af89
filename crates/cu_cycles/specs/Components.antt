-- Strongly connected components: the classes of nodes that reach each other.
use Rattle.std.specs.Prelude.{◌≡◌, ℕ, ◌<◌, ◌≤◌, List, Some, length, slice_get}
use Rattle.cu_cycles.specs.Graph.{Edge, Graph, Reach}

-- The number of each node's component, where the components are numbered from 0. Two nodes of one
-- number reach each other, and no edge goes to a greater number.
pub record AreRanks (g : Graph) (ranks : List ℕ) (count : ℕ) : Type 0 where
  pub sized : length ranks ≡ length g
  pub below : (u r : ℕ) → slice_get ranks u ≡ Some r → r < count
  pub used : (r : ℕ) → r < count → (u : ℕ) × (slice_get ranks u ≡ Some r)
  pub few : count ≤ length g
  pub falling : (u v r s : ℕ) → Edge g u v → slice_get ranks u ≡ Some r → slice_get ranks v ≡ Some s
      → s ≤ r
  pub alike : (u v r : ℕ) → slice_get ranks u ≡ Some r → slice_get ranks v ≡ Some r → Reach g u v
