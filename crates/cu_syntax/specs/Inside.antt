-- What private contracts and invariants of loops say. No public contract speaks of it. In the order
-- in which to read them.

-- Where the parts of a module end, by numbers of tokens.
pub mod Scanning
-- Which trees the grammar gives: a tree's parts are those that the rule of its symbol says.
pub mod Fits
-- The tokens of names and literals.
pub mod NameTokens
-- What the rules of the program's table stand for.
pub mod Meaning
