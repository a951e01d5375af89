-- In the order in which to read them.

-- A text of a module.
pub mod Text
-- What patterns declare, and what is found of it.
pub mod Places
-- Functions whose rules may go on.
pub mod BegunFound
-- What blocks bring into scope.
pub mod Entries
