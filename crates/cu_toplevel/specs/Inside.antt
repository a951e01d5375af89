-- What private contracts and invariants of loops say. No public contract speaks of it. In the order
-- in which to read them.

-- Types of functions of several parameters.
pub mod Arrows
-- Texts of commas in parentheses.
pub mod Commas
-- Data types and synonyms by the parts of their declarations.
pub mod Declared
-- What a module exports, by the numbers of names.
pub mod Exports
-- The type of lists.
pub mod FirstTypes
-- The entities of lists, and after them those of a part of a module.
pub mod Gathering
-- What the code's tables of what is built in stand for.
pub mod Given
-- Functions that begin among rules, one rule after another.
pub mod Heads
-- What is known of functions, as their first rules tell.
pub mod Marks
-- Names that are gathered, each text once.
pub mod Variables
-- What signatures declare of functions, under a table of names.
pub mod SignatureTables
-- What a program has of a goal beside its function.
pub mod Goals
