pub mod ArgumentLemmas
pub mod BelowLemmas
pub mod CellLemmas
mod Examples
pub mod KindLemmas
pub mod OrderLemmas
pub mod PlaceLemmas
pub mod ShapeLemmas
pub mod StackLemmas
pub mod StepLemmas
pub mod StringLemmas
pub mod ViewLemmas
pub mod WriteLemmas
