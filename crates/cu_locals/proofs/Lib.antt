pub mod PatternLemmas
pub mod BegunLemmas
pub mod EntryLemmas
