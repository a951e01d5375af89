-- In the order in which to read them.

-- The notation: quoted names, lists, parentheses.
pub mod Notation
-- What a module in FlatCurry has.
pub mod Modules
-- The text of a module.
pub mod Text
-- Which modules have a text, and which bytes are a text.
pub mod FlatText
-- Where bytes stop being a text.
pub mod Faults
-- Types and expressions as lists of cells.
pub mod Cells
-- Cells spell at most one type or expression.
pub mod Spelling
-- What an answer of the reader stands for.
pub mod Meaning
-- What private contracts and invariants of loops say.
pub mod Inside
