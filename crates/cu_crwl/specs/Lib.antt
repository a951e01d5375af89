-- In the order in which to read them.

-- The claims, statements and steps that the code's values stand for.
pub mod Meaning
-- Whether two patterns or terms are the same.
pub mod Same
-- What bindings say, and whether a statement is about a term.
pub mod Environments
-- The table of the calculus, as a test.
pub mod Table
-- Whether a proof's steps follow, as a test.
pub mod Steps
-- How steps are told apart.
pub mod StepStored
-- What private contracts and invariants of loops say.
pub mod Inside
