-- In the order in which to read them.

-- Which functions mention which, and walks along mentions.
pub mod Walks
-- Recursion through set calls.
pub mod SetCycles
-- Dependency groups, and their order.
pub mod Groups
-- Lambda lifting.
pub mod Lifting
-- What private contracts and invariants of loops say.
pub mod Inside
