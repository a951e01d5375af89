-- What private contracts and invariants of loops say. No public contract speaks of it.

-- What values of the code stand for.
pub mod Stands
-- The tasks of an expression.
pub mod Tasks
-- Synonyms that lead to a goal.
pub mod Circles
-- The tasks of types.
pub mod TypeTasks
-- The tasks of an inferred type.
pub mod InferredTasks
-- The parts of a module's text.
pub mod LineTasks
-- What was given to the output.
pub mod Progress
