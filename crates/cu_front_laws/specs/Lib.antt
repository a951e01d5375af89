-- In the order in which to read them.

-- What inference asks of the types that a program declares.
pub mod DeclaredTypes
-- A program is refused for one reason, or can be run in one way.
pub mod Refusals
