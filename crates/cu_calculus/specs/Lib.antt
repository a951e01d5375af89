-- In the order in which to read them.

-- The literals of the language.
pub mod Literal
-- Partial values.
pub mod Value
-- Patterns and terms.
pub mod Term
-- Programs: functions with their rules, constructors, built-in entities.
pub mod Program
-- Total values, data, ground data; the values of a program.
pub mod Shape
-- The order in which the values of a set function are listed.
pub mod Order
-- Matching, and what variables stand for.
pub mod Match
-- The order of approximation on partial values.
pub mod Below
-- What the built-in operations answer.
pub mod Builtin
-- Which alternative of a case distinction a value takes.
pub mod Choose
-- The rewriting logic: which values a term has.
pub mod Gives
-- Set levels, true claims, and derivations over them.
pub mod Claims
-- Which programs are valid.
pub mod Valid
-- Derivations as lists of statements.
pub mod Proof
-- What the two forms of the calculus say of a statement.
pub mod Proved
-- Statements about calls.
pub mod Calls
-- The claims that derivations and proofs cite.
pub mod Rows
-- Two proofs joined to one.
pub mod Joined
-- Flat programs.
pub mod Flat
-- Flat code.
pub mod Code
-- The program that flat code is.
pub mod FlatProgram
-- Which flat code is well-formed.
pub mod WellFormed
-- Which alternative is taken, as a function.
pub mod Chosen
-- Comparing by `==`, as a function.
pub mod Compared
-- What the built-in operations answer, as a function.
pub mod Answered
-- An example: a choice and its set function.
pub mod Coin
