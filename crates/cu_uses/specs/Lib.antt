-- In the order in which to read them.

-- What names patterns, types and declarations have, and which of them are declared a second time.
pub mod Binders
-- What the text of a module asks of its scopes.
pub mod Demands
-- What is wrong with names that are used, and which of several faults is the first.
pub mod Faults
-- What the first fault that the code holds stands for, and its sets of texts, under a table of
-- names.
pub mod Telling
-- The names that patterns and types have, and what the code finds of them.
pub mod Gathered
-- What private contracts and invariants of loops say.
pub mod Inside
