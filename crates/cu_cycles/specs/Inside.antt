-- What private contracts and invariants of loops say. No public contract speaks of it.
pub mod Search
