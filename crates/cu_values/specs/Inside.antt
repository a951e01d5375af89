-- What private contracts and invariants of loops say. No public contract speaks of it. In the order
-- in which to read them.

-- Which cells make a value total, data or ground.
pub mod CellKinds
-- The order of the heads of values.
pub mod HeadsOrder
-- What the names of the code stand for.
pub mod LabelsOf
-- What the values around a value must know of it to display it.
pub mod Shapes
-- What is left to write while a value is displayed.
pub mod Tasks
-- What the walk that displays a value rests on and gives.
pub mod Layouts
