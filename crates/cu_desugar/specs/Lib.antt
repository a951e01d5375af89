-- In the order in which to read them.

-- What is known of modules.
pub mod Modules
-- What modules and goals are translated to, under names that proofs unfold only where they must.
pub mod Translated
-- What private contracts and invariants of loops say.
pub mod Inside
