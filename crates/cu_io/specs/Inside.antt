-- What private contracts and invariants of loops say. No public contract speaks of it. In the order
-- in which to read them.

-- What adapters to the outside answer.
pub mod Outside
