-- What private contracts and invariants of loops say. No public contract speaks of it.
pub mod NamesOf
pub mod RowsOf
pub mod Groups
pub mod Tasks
pub mod Ready
pub mod Functions
pub mod Outcome
pub mod OtherFunctions
