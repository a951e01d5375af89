-- In the order in which to read them.

-- What the types of the code stand for.
pub mod Meaning
-- What the numbers of a function are.
pub mod Numbered
-- What the dependencies of a text are.
pub mod Depending
-- What private contracts and invariants of loops say.
pub mod Inside
