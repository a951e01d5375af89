-- In the order in which to read them.

-- The code that the parts of a flat program stand for.
pub mod Meaning
-- The code of a flat program.
pub mod Layout
-- Each expression stands after its parts.
pub mod Order
-- What private contracts and invariants of loops say.
pub mod Inside
