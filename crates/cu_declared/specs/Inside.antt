-- What private contracts and invariants of loops say. No public contract speaks of it. In the order
-- in which to read them.

-- The uses of types in views of a text, and what is found of them.
pub mod Gathered
-- What items have, under a table of names.
pub mod Items
-- Tables of numbers that belong to names, under a table of names.
pub mod Numbers
-- The first of the faults that were told, under a table of names, and where a text stands.
pub mod Told
-- Which uses have a wrong number of arguments, by tests.
pub mod Arities
-- Synonyms of the code, and the graph of what they name.
pub mod Synonyms
-- The answers for faults.
pub mod Answers
