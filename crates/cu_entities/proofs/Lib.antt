pub mod DistinctLemmas
pub mod KeyLemmas
pub mod NameLemmas
pub mod SetLemmas
pub mod TableLemmas
