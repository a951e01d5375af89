-- Graphs as rows of nodes, one row for each node: the nodes to which edges go from it. Nodes are
-- numbers, from 0.
use Rattle.std.specs.Prelude.{◌≡◌, ◌↔◌, ℕ, ◌<◌, Bool, IsTrue, List, Some, length, map, slice_get}
use Rattle.std.specs.declared.alloc.Global.{Global}
use Rattle.std.specs.declared.vec.Vec.{Vec}

abbrev pub Graph : Type 0
Graph = List (List ℕ)

-- the graph that code keeps as vectors
abbrev pub rows_in : List (Vec ℕ Global) → Graph
rows_in rows = map (λ row. row.items) rows

-- the row of u has v
pub record Edge (g : Graph) (u v : ℕ) : Type 0 where
  pub row : List ℕ
  pub is_row : slice_get g u ≡ Some row
  pub place : ℕ
  pub is_there : slice_get row place ≡ Some v

-- a walk along edges, or none at all
pub data Reach (g : Graph) : ℕ → ℕ → Type 0 where
  here : (u : ℕ) → Reach g u u
  there : (u v w : ℕ) → Edge g u v → Reach g v w → Reach g u w

-- every edge ends at a node of the graph
pub record IsWhole (g : Graph) : Type 0 where
  pub within : (u v : ℕ) → Edge g u v → v < length g

-- a walk of one edge or more leads from u back to it
pub record LiesOnCycle (g : Graph) (u : ℕ) : Type 0 where
  pub next : ℕ
  pub edge : Edge g u next
  pub closes : Reach g next u

-- a flag for each node: whether it lies on a cycle
pub record AreOnCycles (g : Graph) (flags : List Bool) : Type 0 where
  pub sized : length flags ≡ length g
  pub tells : (u : ℕ) (flag : Bool) → slice_get flags u ≡ Some flag
      → (IsTrue flag ↔ LiesOnCycle g u)
