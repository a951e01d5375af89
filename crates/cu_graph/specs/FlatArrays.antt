-- Nodes in flat arrays: one array of the nodes, one of all their arguments, and one of the kinds
-- that are too wide for an entry.
use Rattle.std.specs.Prelude.{ℕ, ◌+◌, ◌≤◌, List, length, map, take, drop}
use Rattle.std.specs.List.{All}
use Rattle.cu_machine.specs.declared.Kind.{Kind}
use Rattle.cu_machine.specs.Graph.{Graph, Node}
use Rattle.cu_graph.specs.declared.node_vec.Entry.{Entry}
use Rattle.cu_graph.specs.Small.{IsInTable, kind_of}

-- the node of an entry, whose kind is in this table if it is wide, and whose arguments stand among
-- these
abbrev pub node_of : List Kind → List ℕ → Entry → Node
node_of wide args entry =
    record { kind = kind_of wide entry.kind; args = take entry.arity (drop entry.start args) }

-- The kind of an entry has its place in the table, if it is wide, and all its arguments stand in the
-- array.
pub record IsWithin (wide : List Kind) (args : List ℕ) (entry : Entry) : Type 0 where
  pub known : IsInTable wide entry.kind
  pub bounded : entry.start + entry.arity ≤ length args

-- the nodes of entries
abbrev pub nodes_of : List Kind → List ℕ → List Entry → Graph
nodes_of wide args entries = map (node_of wide args) entries

-- All kinds and arguments of several entries stand in the arrays.
abbrev pub AreWithin : List Kind → List ℕ → List Entry → Type 0
AreWithin wide args entries = All (IsWithin wide args) entries
