-- In the order in which to read them.

-- What a scope of the code stands for.
pub mod Scopes
-- What views stand for in programs, under a table of names.
pub mod Forms
-- What rules and local functions stand for, under a table of names.
pub mod Functions
-- Operands and operators of expressions.
pub mod Operands
-- What private contracts and invariants of loops say.
pub mod Inside
