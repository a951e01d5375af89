-- What private contracts and invariants of loops say. No public contract speaks of it. In the order
-- in which to read them.

-- The clause matrix of a case distinction.
pub mod Rows
-- What `==` finds out from the heads of two values.
pub mod Comparing
-- Operations on one literal and on two.
pub mod Numbers
-- Cells of a program's values.
pub mod CellsOf
