-- In the order in which to read them.

-- Words, and where bytes part from them.
pub mod WordLemmas
-- Numbers in decimal.
pub mod DecimalLemmas
-- The elements of a list, one after another.
pub mod ListLemmas
-- Quoted names are UTF-8.
pub mod NameLemmas
-- What is read of numbers and lists is what they are the text of.
pub mod SoundLemmas
-- Room for the elements of a list.
pub mod RoomLemmas
-- What names stand for stays as the table of names grows.
pub mod KeptLemmas
-- Loops over the elements of a list.
pub mod LoopLemmas
-- Functions and modules, by what is read of their parts.
pub mod DoneLemmas
-- Reading types takes bytes away.
pub mod ShorterLemmas
-- Cells with the labels of a type spell it.
pub mod LabelLemmas
-- What each task of types reads.
pub mod TypeTaskLemmas
-- What a step of types leaves.
pub mod GoesLemmas
-- Reading expressions takes bytes away.
pub mod ExpressionShorter
-- Cells with the labels of an expression spell it.
pub mod ExpressionLabelLemmas
-- What each task of expressions reads.
pub mod ExpressionTaskLemmas
-- What a step of expressions leaves.
pub mod ExpressionGoesLemmas
-- What is said of readers, and of those that are put together step by step.
pub mod ReaderLaws
-- One of several words.
pub mod TableLaws
-- One reader where a byte comes first, and another one where it doesn't.
pub mod BranchLaws
-- Numbers.
pub mod NumberLaws
-- Lists.
pub mod ElementLaws
-- Texts in quotes.
pub mod TextLaws
-- Names, entities, literals, kinds and patterns.
pub mod PartLaws
-- Types.
pub mod TypeLaws
-- Expressions.
pub mod ExpressionLaws
-- Declarations, functions, operators and modules.
pub mod ModuleLaws
-- Whole texts.
pub mod WholeLaws
