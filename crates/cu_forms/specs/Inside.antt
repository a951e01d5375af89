-- What private contracts and invariants of loops say. No public contract speaks of it. In the order
-- in which to read them.

-- Calls by the terms of their arguments, and by what the first of these refers to.
pub mod Calls
-- Lists, tuples, literals and distinctions, under names for proofs that look at their parts alone.
pub mod Lists
-- What patterns are made of.
pub mod PatternParts
-- Definitions of a block, guards, and what stands around the rest of a comprehension.
pub mod Blocks
-- What the parts of expressions stand for.
pub mod Expressions
-- What rules and local functions are made of.
pub mod Functions
