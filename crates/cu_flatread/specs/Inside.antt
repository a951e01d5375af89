-- What private contracts and invariants of loops say. No public contract speaks of it.

-- What reading gives, words and lists.
pub mod Words
-- Numbers and literals.
pub mod Numbers
-- Quoted names and entities.
pub mod Names
-- Types.
pub mod Types
-- Expressions.
pub mod Expressions
-- Declarations, and modules.
pub mod Declarations
-- The tasks of types.
pub mod TypeTasks
-- The tasks of expressions.
pub mod ExpressionTasks
