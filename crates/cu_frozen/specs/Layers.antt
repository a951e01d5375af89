-- Layers of writes: what was written over a graph, and what was written over the result.
use Rattle.std.specs.Prelude.{◌≡◌, ℕ, ◌+◌, ◌<◌, ◌≤◌, ◌^◌, List, [], ◌∷◌, ◌++◌, length}
use Rattle.std.specs.List.{All}
use Rattle.cu_machine.specs.Graph.{Graph, Node, node_at, put}

-- A layer: what was written over a graph, which is nodes in the place of some, and nodes after all
-- of them.
pub record Layer : Type 0 where
  -- how many nodes the graph below has
  pub base : ℕ
  -- the indices of the nodes that were changed, and the nodes that stand there now
  pub changed : List ℕ
  pub changes : List Node
  -- the nodes after those of the graph below
  pub added : List Node

-- the layer over a graph of so many nodes, with these changed indices, nodes in their place, and
-- added nodes
abbrev pub layer_of : ℕ → List ℕ → List Node → List Node → Layer
layer_of base changed changes added =
    record { base = base; changed = changed; changes = changes; added = added }

-- the graph in which these nodes stand at these indices; of two at one index the first counts
abbrev pub written : Graph → List ℕ → List Node → Graph
written graph [] nodes = graph
written graph (id ∷ ids) [] = graph
written graph (id ∷ ids) (node ∷ nodes) = put (written graph ids nodes) id node

-- a graph after a layer was written over it
abbrev pub over : Layer → Graph → Graph
over layer graph = written graph layer.changed layer.changes ++ layer.added

-- a graph after these layers were written over it, the first one first
unfoldable pub laid : Graph → List Layer → Graph
laid graph [] = graph
laid graph (layer ∷ layers) = laid (over layer graph) layers

-- Each layer was written over the graph of those before it.
unfoldable pub AreLaid : Graph → List Layer → Type 0
AreLaid graph [] = Unit {0}
AreLaid graph (layer ∷ layers) = (length graph ≡ layer.base) × AreLaid (over layer graph) layers

-- Layers as a frozen graph has them: each was written over the graph of those before it, and there
-- are few.
pub record AreFrozen (layers : List Layer) : Type 0 where
  pub laid : AreLaid [] layers
  pub few : length layers ≤ 24

-- A layer fits a graph of its size.
pub record IsWhole (layer : Layer) : Type 0 where
  pub paired : length layer.changed ≡ length layer.changes
  pub below : All (λ id. id < layer.base) layer.changed
  pub few : layer.base + length layer.added < 2 ^ 32

-- The new layer comes to the old one and then this change.
pub record Amends (old new : Layer) (change : Graph → Graph) : Type 0 where
  pub base : new.base ≡ old.base
  pub graph : (below : Graph) → length below ≡ old.base → over new below ≡ change (over old below)

-- The node at an index of a list is the node of a graph with this number.
pub record Shows (nodes : List Node) (place : ℕ) (graph : Graph) (id : ℕ) : Type 0 where
  pub within : place < length nodes
  pub same : node_at nodes place ≡ node_at graph id

-- Over any graph that it fits, a layer shows the node at an index of this list as the node with
-- this number.
abbrev pub Holds : Layer → ℕ → List Node → ℕ → Type 0
Holds layer id nodes place = (below : Graph) → length below ≡ layer.base
    → Shows nodes place (over layer below) id

-- Over any graph that it fits, a layer leaves the node with this number as it was.
abbrev pub Leaves : Layer → ℕ → Type 0
Leaves layer id = (below : Graph) → length below ≡ layer.base
    → node_at (over layer below) id ≡ node_at below id
