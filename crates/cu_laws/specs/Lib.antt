-- In the order in which to read them.

-- Good and loose assignments.
pub mod Good
-- Assignments for a graph in which an expression was built.
pub mod Extends
-- Searches for all values, traced back to the call at which they began.
pub mod Traced
-- Graphs at a set level.
pub mod AtLevel
-- Traced states at a set level.
pub mod TracedAt
-- From what is good for a state to what is good for one before it.
pub mod StepsBackward
-- From a graph to one that follows it, without losing a value.
pub mod Continues
-- States from which a solution can still be reached.
pub mod Promises
-- Instances of answers, and what a listing covers.
pub mod Instance
-- Solutions that a state promises.
pub mod Solution
