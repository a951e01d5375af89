-- What private contracts and invariants of loops say. No public contract speaks of it. In the order
-- in which to read them.

-- The least set of numbers that is closed under conditions: each number has one, and joins the set
-- where it holds.
pub mod Closure
-- What is read off the rows about the tokens that they take, as tests and lists.
pub mod CallTables
-- The table of ends: for each row, and each number of tokens that are left of a text, how many are
-- left where the row has matched.
pub mod Ends
-- How the table of ends keeps the places that are finished: of each place those rows alone whose
-- end isn't the usual one.
pub mod Places
-- The rows that a row reaches, and a grammar of these alone.
pub mod Reached
-- Reading a tree off the table of ends.
pub mod Cursors
