-- In the order in which to read them.

-- How operators group what stands between them, by their fixities.
pub mod Grouping
-- Laws of grouping.
pub mod Laws
-- Pieces of an expression, and the items that they are under their numbers.
pub mod Pieces
-- The fixities that are declared.
pub mod Fixities
-- The items of expressions and patterns with operators, and trees of them.
pub mod Operators
-- What holds of the parts of an expression or a pattern: whose they are, and how large.
pub mod Owners
-- What is grouped of expressions and patterns as they are written, under a table of names.
pub mod Resolving
-- Trees over the numbers of pieces, as cells in prefix order, read from the right end.
pub mod Spelling
-- The operator at the top of the tree of some items, and what is left to group while trees are
-- built from the top.
pub mod Ranges
-- Parts of expressions and patterns as they are written, and in the order of a tree.
pub mod Parts
