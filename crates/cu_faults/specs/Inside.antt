-- What private contracts and invariants of loops say. No public contract speaks of it. In the order
-- in which to read them.

-- What is wrong with views of patterns, under a table of names.
pub mod Patterns
-- What an expression refers to that is a name and nothing else, and what is wrong with operators in
-- the order of their tree.
pub mod Uses
