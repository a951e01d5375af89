-- In the order in which to read them.

-- The first of the faults that were told.
pub mod Telling
-- What private contracts and invariants of loops say.
pub mod Inside
