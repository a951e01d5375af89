pub mod CapturingScope
pub mod NameLemmas
pub mod Parts
