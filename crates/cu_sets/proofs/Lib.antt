pub mod FrameLemmas
pub mod Lists
pub mod RunLemmas
pub mod Sorting
