-- In the order in which to read them.

-- What private contracts and invariants of loops say.
pub mod Inside
