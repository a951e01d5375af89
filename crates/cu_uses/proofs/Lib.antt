pub mod BlockLemmas
pub mod FoundLemmas
pub mod ListLemmas
pub mod OrderLemmas
pub mod TextLemmas
pub mod ToldLemmas
pub mod TopLemmas
pub mod WalkLemmas
