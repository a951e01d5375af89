-- The integers of the language, and division rounded towards minus infinity.
pub mod Integers
