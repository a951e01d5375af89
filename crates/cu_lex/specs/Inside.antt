-- What private contracts and invariants of loops say. No public contract speaks of it. In the order
-- in which to read them.

-- What is left of a text, and how far its first characters go.
pub mod Scanning
-- Words with qualifiers, at the start of a text.
pub mod Chains
-- Items of literals, as they are read from the left.
pub mod Items
-- One piece of a text, as the lexer finds it.
pub mod Lexing
