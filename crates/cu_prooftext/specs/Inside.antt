-- What private contracts and invariants of loops say. No public contract speaks of it. In the order
-- in which to read them.

-- The text of values, cell by cell.
pub mod Cells
-- Readers of lists of bytes.
pub mod Readers
-- Loops of readers.
pub mod Loops
-- The ranges of numbers.
pub mod Ranges
-- The readers of the format.
pub mod Reading
-- The readers of lines, whole texts and files.
pub mod Lines
-- Patterns and terms part by part.
pub mod Frames
-- The ranges of the code.
pub mod RangeOf
-- What the code answers.
pub mod Gives
-- The frames of the code.
pub mod FramesOf
