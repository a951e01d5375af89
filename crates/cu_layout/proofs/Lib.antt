pub mod BlockLemmas
pub mod Examples
pub mod LawLemmas
pub mod NamesLemmas
pub mod PartnerLemmas
pub mod PlainLemmas
pub mod StackLemmas
