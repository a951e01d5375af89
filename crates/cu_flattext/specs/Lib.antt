-- In the order in which to read them.

-- Names, lists and entities in the text.
pub mod Naming
-- Types, and the lines of data types and synonyms.
pub mod TypeTexts
-- Expressions of flat functions.
pub mod ExpressionTexts
-- The text of a module.
pub mod Text
-- What was written to a sink.
pub mod Written
-- A module as an example.
pub mod Worked
-- What private contracts and invariants of loops say.
pub mod Inside
