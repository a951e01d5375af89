-- What private contracts and invariants of loops say. No public contract speaks of it. In the order
-- in which to read them.

-- The tests whether a term is the call of a goal.
pub mod Calls
