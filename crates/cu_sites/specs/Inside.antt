-- What private contracts and invariants of loops say. No public contract speaks of it. In the order
-- in which to read them.

-- Rules that were found, and the functions to which they belong.
pub mod RulesFound
-- What blocks bring into scope, and how spots are entered.
pub mod Entering
-- What stands in the views of a text, at a spot.
pub mod Walked
-- Variables and local functions that are found and counted.
pub mod Counting
-- Relations between numbers, and what is reached along them.
pub mod Relating
-- What the nodes of a text use and declare.
pub mod Using
-- What local functions use, bind and capture, by numbers.
pub mod Capturing
-- The definitions of local variables, as they are found.
pub mod Defining
-- Which variables the definitions of local variables need, by numbers.
pub mod Needing
