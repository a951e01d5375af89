-- What private contracts and invariants of loops say. No public contract speaks of it.

-- Scopes as lists of variables.
pub mod Scope
-- The expressions that were written so far.
pub mod Written
-- What was laid out.
pub mod Laid
