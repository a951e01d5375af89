-- What private contracts and invariants of loops say. No public contract speaks of it.

-- What the translation of modules and a goal comes to.
pub mod Outcomes
-- What the stages after the walk come to.
pub mod Stages
-- What the answer of inference says.
pub mod Typings
-- What the faults of stages tell.
pub mod StageFaults
-- Why the lifting of a program can't be run.
pub mod Runnable
-- What the stages come to for a goal in modules that are loaded.
pub mod Questions
