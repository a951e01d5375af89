-- In the order in which to read them.

-- What lists of declared entities stand for, under a table of names.
pub mod Listings
-- The entities that modules declare, by their kinds.
pub mod Declarations
-- Functions as their first rules tell.
pub mod Heads
-- Tables of fixities, under a table of names.
pub mod FixityTables
-- Names of tuples in a table of names.
pub mod TupleTables
-- Entities of modules as numbers, under a table of names.
pub mod EntityTables
-- What the names of top level refer to in a module, under a table of names.
pub mod Surrounding
-- Modules as they are translated, under a table of names.
pub mod Readings
-- What private contracts and invariants of loops say.
pub mod Inside
