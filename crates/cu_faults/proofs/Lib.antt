mod OrderLemmas
pub mod ToldLemmas
mod ClashLemmas
mod PatternLemmas
mod RepeatLemmas
mod UseLemmas
mod RuleLemmas
mod NodeLemmas
mod RecursiveLemmas
