-- In the order in which to read them.

-- Values as lists of cells.
pub mod Cells
-- Cells spell at most one value.
pub mod Spelling
-- The head and the arguments of a value.
pub mod Parts
-- The test whether a value approximates another.
pub mod Approximation
-- The values that views stand for.
pub mod Views
-- How values are displayed.
pub mod Display
-- What a kernel program calls its entities.
pub mod ProgramLabels
-- What private contracts and invariants of loops say.
pub mod Inside
