-- In the order in which to read them.

-- Worked examples.
pub mod Sample
-- Numbers, and names with numbers in them.
pub mod NumberTexts
-- How long texts are at least.
pub mod Lengths
-- The variables of types.
pub mod TypeVariables
-- The numbers of the variables of inferred types.
pub mod TypeNumbers
-- The texts of types and of their declarations.
pub mod TypeTextLemmas
-- The texts of expressions.
pub mod ExpressionTextLemmas
-- The texts of modules.
pub mod ModuleTextLemmas
-- How many variables an expression binds.
pub mod Bindings
-- Names that are read.
pub mod GoodNames
-- Types that are read.
pub mod GoodTypes
-- Expressions that are read.
pub mod GoodExpressions
-- Modules that are read.
pub mod GoodModules
-- What was printed is read again.
pub mod ReadLemmas
