-- In the order in which to read them.

-- The lines of a text.
pub mod Lines
-- What an asker tells of its replies.
pub mod Answers
-- What a session writes, and how it ends.
pub mod Session
-- What was written, why a session ends, and the counts of faults.
pub mod Ends
-- What private contracts and invariants of loops say.
pub mod Inside
