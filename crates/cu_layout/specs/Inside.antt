-- What private contracts and invariants of loops say. No public contract speaks of it. In the order
-- in which to read them.

-- What the entries of the code's stack stand for.
pub mod Entries
