-- What private contracts and invariants of loops say. No public contract speaks of it. In the order
-- in which to read them.

-- What surrounds the text of a function.
pub mod Surrounding
-- The functions of a module with what is known of their texts.
pub mod Texts
-- A goal with what is known of its text.
pub mod Goals
-- The signature that is found for a name.
pub mod Signatures
-- The fault for which a text is refused.
pub mod Refusals
-- What outcomes of the code stand for.
pub mod Outcomes
