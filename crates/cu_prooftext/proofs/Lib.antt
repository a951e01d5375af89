-- What the crate's proofs share.

-- The text of a value is that of its cells.
pub mod CellTexts
-- The texts of the forms of patterns and terms.
pub mod TermTexts
-- Laws of readers.
pub mod ReaderLaws
-- Laws of loops.
pub mod LoopLaws
-- Laws of numbers.
pub mod NumberLaws
-- Laws of either.
pub mod EitherLaws
-- Ranges.
pub mod RangeLaws
-- Values.
pub mod ValueLaws
-- Cells of values.
pub mod CellLaws
-- Lists.
pub mod ListLaws
-- Patterns.
pub mod PatternLaws
-- Terms.
pub mod TermLaws
-- Whole texts and their faults.
pub mod WholeLaws
-- Lines.
pub mod LineLaws
-- Files.
pub mod FileLaws
-- Steps of numbers.
pub mod NumberSteps
-- Steps over cells.
pub mod CellSteps
-- Parts with frames around them.
pub mod FrameLaws
-- Steps over frames.
pub mod FrameSteps
-- Errors that are passed on.
pub mod GivesLaws
-- Patterns part by part.
pub mod PatternFrames
-- Terms part by part.
pub mod TermFrames
-- Steps over lists.
pub mod ListSteps
-- Steps over lines.
pub mod LineSteps
-- Steps of statements.
pub mod StatementSteps
