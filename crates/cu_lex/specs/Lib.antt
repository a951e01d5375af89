-- In the order in which to read them.

-- Characters and the places where they stand.
pub mod Located
-- Maximal munch: texts in pieces, each the longest that its classes allow.
pub mod Munch
-- The words of the token classes, but for literals in quotes.
pub mod Words
-- Character and string literals.
pub mod Literals
-- What tokens are, with names as texts.
pub mod Kind
-- The pieces of a module's text: its tokens, and what stands between them.
pub mod Pieces
-- Where bytes stop being UTF-8.
pub mod Decoding
-- The tokens of a module's text.
pub mod Tokens
-- Laws of the definition of tokens.
pub mod Laws
-- What the lexer's answers stand for.
pub mod Reading
-- What private contracts and invariants of loops say.
pub mod Inside
