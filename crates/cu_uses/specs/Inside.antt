-- What private contracts and invariants of loops say, in the order in which to read them.

-- What declarations declare, and what the code gathers of it.
pub mod Blocks
-- What the views of a text ask of its scopes.
pub mod Asked
-- What items declare at top level, and what they ask of their scopes.
pub mod Tops
-- Demands of a text whose faults were told.
pub mod Worlds
-- What a scope of the code tells, and what it stands for.
pub mod Scopes
