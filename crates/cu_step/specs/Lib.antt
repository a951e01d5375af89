-- In the order in which to read them.

-- The states and events that branches and outcomes stand for.
pub mod Outcome
-- What private contracts and invariants of loops say.
pub mod Inside
