-- In the order in which to read them.

-- What a library holds.
pub mod Holdings
-- Counts of faults.
pub mod Rose
-- What a library answers.
pub mod Fetches
-- What a sink answers.
pub mod Puts
-- What a source answers.
pub mod Reads
-- Calls of an object in memory.
pub mod Calls
-- Counts of faults that rise by one.
pub mod Once
-- A source in memory.
pub mod Input
-- A source that reads the system's input.
pub mod Intake
-- A sink in memory.
pub mod Output
-- A library in memory.
pub mod Shelf
-- What private contracts and invariants of loops say.
pub mod Inside
