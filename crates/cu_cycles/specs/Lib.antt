-- In the order in which to read them.

-- Graphs as rows of nodes.
pub mod Graph
-- Strongly connected components.
pub mod Components
-- What private contracts and invariants of loops say.
pub mod Inside
