-- In the order in which to read them.

-- The text of a listing.
pub mod Lines
-- Where a search stands between two rounds.
pub mod Standing
-- What was written to a sink.
pub mod Written
-- What a round does to a search and to its output.
pub mod Rounds
-- Where searches of the code stand.
pub mod Stands
-- Where paused searches of the code stand.
pub mod Paused
-- What the lines of a listing come to.
pub mod Totals
-- The next lines of a listing, which are asked for one after another.
pub mod NextLines
