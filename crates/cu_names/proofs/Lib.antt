pub mod Growth
pub mod TextLemmas
