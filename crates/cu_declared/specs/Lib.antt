-- In the order in which to read them.

-- Where a text uses the names of types, and on how many arguments, in the order of the text.
pub mod TypeUses
-- How many parameters the types of modules have.
pub mod Parameters
-- Type synonyms that lead to themselves.
pub mod SynonymCycles
-- What is wrong with the uses of types in modules and goals, and which of several faults is the
-- first.
pub mod TypeFaults
-- What the answers of `declared_types` and `declared_types_goal` stand for, under a table of names.
pub mod Telling
-- What private contracts and invariants of loops say.
pub mod Inside
