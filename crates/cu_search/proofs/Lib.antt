pub mod WrittenLemmas
pub mod OneOutcome
mod RoundLemmas
mod ListingLemmas
mod LineLemmas
mod BranchLemmas
mod TotalsLemmas
mod NextLemmas
