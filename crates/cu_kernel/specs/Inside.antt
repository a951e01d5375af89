-- What private contracts and invariants of loops say. No public contract speaks of it. In the order
-- in which to read them.

-- The variables that a scope of the code allows.
pub mod Scope
-- The outlines of types that the code's outlines stand for.
pub mod OutlineOf
