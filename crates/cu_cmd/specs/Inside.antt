-- What private contracts and invariants of loops say. No public contract speaks of it. In the order
-- in which to read them.

-- How the parts of a run end, and what they wrote.
pub mod Runs
-- What a session has between two lines.
pub mod Conversations
-- What a session wrote, and what became of the counts of faults.
pub mod Served
