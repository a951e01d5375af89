-- What private contracts and invariants of loops say. No public contract speaks of it. In the order
-- in which to read them.

-- Which heads may stand, as the code keeps it.
pub mod KnownHeads
-- The test that a scope stands for: which variables it binds.
pub mod Scope
-- The variables that stand in a term where nothing around binds them.
pub mod FreeUses
-- The search for the local functions that capture a variable.
pub mod Capturing
-- What is asked of each variable of a top-level function, and of the other parts of it.
pub mod Scoping
-- The tests by which it is decided whether rules before lifting are those of `&&`.
pub mod LocalConjunction
-- The tests by which it is decided whether the parts of a program fit together.
pub mod Joining
