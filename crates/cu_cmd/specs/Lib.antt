-- In the order in which to read them.

-- The text of a goal's listing.
pub mod Listings
-- What a check writes.
pub mod Checking
-- What a session replies to its lines.
pub mod Replies
-- What a session writes.
pub mod Sessions
-- What a run writes, and the status that it ends with.
pub mod Report
-- The module and the goal of a trial, and what it writes.
pub mod Trials
-- What of a report was written.
pub mod Written
-- In which round an answer is listed.
pub mod Depths
-- When each status may come.
pub mod Causes
-- The numbers with which the process ends.
pub mod Numbers
-- What private contracts and invariants of loops say.
pub mod Inside
