-- What private contracts and invariants of loops say. No public contract speaks of it.
pub mod MentionsOf
pub mod Trail
pub mod Levelling
pub mod Outcome
pub mod Ordering
pub mod Capturing
pub mod LiftedPlaces
