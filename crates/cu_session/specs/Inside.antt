-- What private contracts and invariants of loops say. No public contract speaks of it.

-- A session, a part of its text at a time.
pub mod Parts
