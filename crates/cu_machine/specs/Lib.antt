-- In the order in which to read them.

-- Elements of lists.
pub mod Among
-- Graphs of nodes, and the heads of nodes.
pub mod Graph
-- Lists of indices without repeats.
pub mod Places
-- What is built for an expression.
pub mod Build
-- Values read off graphs, and values pushed as nodes.
pub mod Spell
-- States of a branch of the search.
pub mod State
-- Which states are valid.
pub mod Validity
-- Code and states without set functions.
pub mod Sets
-- What the value of a node needs: needed narrowing.
pub mod Need
-- The step table: what becomes of a graph where a node is rewritten.
pub mod Rewrite
-- The step table as a relation.
pub mod Steps
-- Values in order, without repeats.
pub mod Sort
-- One step of a state.
pub mod Next
-- Several steps of a state at once.
pub mod Run
-- The levels of the search tree.
pub mod Level
-- The listing of a goal.
pub mod Listing
-- Where an answer stands in a listing.
pub mod Earlier
-- What a search for all values of a function finds.
pub mod Found
-- An example, whose listings are computed.
pub mod Coin
