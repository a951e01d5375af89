-- What private contracts and invariants of loops say.
pub mod Inside
