-- Term graphs: lists of nodes, which name each other by their indices. A node that several others
-- name is shared.
use Rattle.std.specs.Prelude.{ℕ, zero, suc, List, [], ◌∷◌, length, slice_index_or, slice_set}
use Rattle.cu_machine.specs.declared.Kind.{Kind}
use Rattle.cu_machine.specs.declared.Kind.TheVariants as kind

-- a node: its kind and its arguments
pub record Node : Type 0 where
  pub kind : Kind
  -- the indices of the node's arguments, from left to right
  pub args : List ℕ

-- a graph: the list of its nodes
abbrev pub Graph : Type 0
Graph = List Node

-- a node without arguments
abbrev pub alone : Kind → Node
alone k = record { kind = k; args = [] }

-- an Ind: another name of the node with this index
abbrev pub renaming : ℕ → Node
renaming id = record { kind = kind.Ind; args = id ∷ [] }

-- the node that stands for a node that there isn't
abbrev pub stuck : Node
stuck = alone kind.Stuck

-- the node with an index, or a stuck node where there is none
abbrev pub node_at : Graph → ℕ → Node
node_at graph id = slice_index_or graph id stuck

-- the graph in which another node stands at an index
abbrev pub put : Graph → ℕ → Node → Graph
put graph id node = slice_set graph id node

-- the head of a node: an Ind is followed to its argument, and any other node is its own head
abbrev pub followed : (ℕ → ℕ) → ℕ → Kind → List ℕ → ℕ
followed follow id kind.Ind (other ∷ args) = follow other
followed follow id _ _ = id

-- The index of a node's head, which is found by following Ind. The first number bounds how many
-- nodes are visited.
unfoldable pub head_within : ℕ → Graph → ℕ → ℕ
head_within zero graph id = id
head_within (suc visits) graph id =
    followed (head_within visits graph) id (node_at graph id).kind (node_at graph id).args

-- the index of a node's head; on a graph without cycles as many visits as it has nodes suffice
abbrev pub head_of : Graph → ℕ → ℕ
head_of graph id = head_within (length graph) graph id

-- the node that is the head of a node
abbrev pub head_at : Graph → ℕ → Node
head_at graph id = node_at graph (head_of graph id)
