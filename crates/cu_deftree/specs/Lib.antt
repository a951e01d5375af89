-- In the order in which to read them.

-- Rows of patterns over positions: clause matrices.
pub mod Rows
-- The flat terms of rules and of case distinctions.
pub mod Lowering
-- The flat program of a program.
pub mod LoweredProgram
-- Why a program isn't lowered.
pub mod NotLowered
-- What private contracts and invariants of loops say.
pub mod Inside
