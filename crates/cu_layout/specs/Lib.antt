-- In the order in which to read them.

-- What layout sees of a token.
pub mod Forms
-- The layout rules: what they put before a token, and what they do to the stack of what stands
-- open.
pub mod Rules
-- The tokens of a text with the braces and semicolons that the layout rules put in.
pub mod Blocks
-- What the answers of `block` stand for.
pub mod Reading
-- Laws of the layout rules.
pub mod Laws
-- What private contracts and invariants of loops say.
pub mod Inside
