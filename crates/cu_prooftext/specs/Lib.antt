-- In the order in which to read them.

-- The text of a proof and of the claims that it may use.
pub mod Text
-- What the format allows of a proof: ranges of numbers, order, nesting.
pub mod Format
-- Whole texts, their prefixes, and the fault of bytes that are none.
pub mod Faults
-- Files: a goal, and the proof of an answer to it.
pub mod Files
-- What a fault of the code says.
pub mod Reads
-- What private contracts and invariants of loops say.
pub mod Inside
