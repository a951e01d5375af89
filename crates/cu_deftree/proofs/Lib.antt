pub mod Alternatives
pub mod Converse
pub mod Complete
pub mod FlatTrees
pub mod Levels
pub mod Meaning
pub mod Meets
pub mod Occurs
pub mod OneTree
pub mod Opening
pub mod Reached
pub mod Selected
pub mod Shows
pub mod Sound
pub mod Suits
pub mod Weights
pub mod Lowerable
pub mod Scoped
pub mod StillValid
pub mod KeptConjunction
pub mod FlatIsValid
mod NameLaws
mod RowSteps
mod GroupSteps
mod NumberSteps
mod ChoiceSteps
mod Passing
mod Nodes
mod TreeViews
mod TaskWeights
mod TreeNodes
mod TaskSteps
mod TreeExits
mod LoweredFunctions
mod CopiedParts
mod KernelStays
mod LoweredMeaning
