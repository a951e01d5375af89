mod AloneLemmas
mod ClashLemmas
mod CopyLemmas
mod CycleLemmas
mod FunctionLemmas
mod GoalLemmas
mod GrowthLemmas
pub mod LoadedLemmas
mod ModuleLemmas
mod NamedLemmas
mod ReadLemmas
mod RunLemmas
mod StageLemmas
mod TableLemmas
mod WalkLemmas
mod WholeLemmas
