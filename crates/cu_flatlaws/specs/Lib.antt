-- In the order in which to read them.

-- The types that are printed, and declarations of types.
pub mod PrintedTypes
-- The expressions that are printed.
pub mod PrintedExpressions
-- The module that is printed.
pub mod Printed
-- How deep a module is nested.
pub mod Nesting
-- The names of what a program declares.
pub mod DeclaredNames
-- What was printed is read again.
pub mod Readable
-- An example.
pub mod Example
