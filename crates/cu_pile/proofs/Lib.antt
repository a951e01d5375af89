pub mod Counts
pub mod Claiming
pub mod Working
pub mod Ordering
