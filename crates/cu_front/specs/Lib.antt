-- In the order in which to read them.

-- Why modules or a goal are refused.
pub mod Refusal
-- The line of a refused run.
pub mod RefusalLine
-- The refusals that those of the code stand for.
pub mod RefusalMeaning
-- What the text of a goal is read as.
pub mod GoalTexts
-- The names that a table has to have for modules and a goal.
pub mod Names
-- The program before lifting that modules are translated to.
pub mod Translated
-- Lifted programs, and why one can't be run.
pub mod Programs
-- What modules and a goal come to: a refusal or a program.
pub mod Compiling
-- What the answers of `compile` tell.
pub mod CompileAnswers
-- Modules that are loaded once, and asked of later.
pub mod Loaded
-- What the faults of `ask` tell.
pub mod AskAnswers
-- What private contracts and invariants of loops say.
pub mod Inside
