-- What private contracts and invariants of loops say. No public contract speaks of it.

-- Marks of the indices that were changed.
pub mod Marked
