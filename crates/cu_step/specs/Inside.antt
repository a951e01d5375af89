-- What private contracts and invariants of loops say. No public contract speaks of it.

-- The building of an expression by tasks.
pub mod Building
-- The pushing of values, cell by cell.
pub mod Pushing
-- The moves that outcomes of the step table stand for.
pub mod Moved
-- The needs that answers stand for.
pub mod Needed
-- Where an Ind leads.
pub mod Head
-- Which patterns a head matches.
pub mod Matching
-- Operations on numbers and characters.
pub mod Numbers
-- Nodes over pairs of arguments.
pub mod Pairs
-- The occurs check, and the test whether a value is data.
pub mod Occurring
-- What a head adds to a value that is read.
pub mod Reading
-- The reading of a value.
pub mod Written
-- The walk that finds a node's need.
pub mod Walk
-- The walk that a branch keeps.
pub mod Kept
