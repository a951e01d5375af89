-- In the order in which to read them.

-- When a proof proves an answer of a goal.
pub mod Proved
-- What private contracts and invariants of loops say.
pub mod Inside
