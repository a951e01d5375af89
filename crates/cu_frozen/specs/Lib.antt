-- In the order in which to read them.

-- What was written over a graph.
pub mod Layers
-- What private contracts and invariants of loops say.
pub mod Inside
