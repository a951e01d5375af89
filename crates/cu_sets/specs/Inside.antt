-- What private contracts and invariants of loops say. No public contract speaks of it. In the order
-- in which to read them.

-- The end of a search for all values.
pub mod Delivered
-- What became of the branches of a level.
pub mod Levels
-- How much there is to step in a state.
pub mod Sizes
-- Searches whose levels are being stepped, one within another.
pub mod Frames
-- Whether exactly one branch follows a step.
pub mod Onward
