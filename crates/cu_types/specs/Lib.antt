-- In the order in which to read them.

-- Types by their heads and arguments, and substitutions of types for type variables.
pub mod Types
-- Unification: what solves equations between types, and what equations make equal.
pub mod Unification
-- Types in a table: each is made of types that stand before it and that it names by their places,
-- so that types may share their parts.
pub mod Table
-- Type synonyms, and types in which they are expanded.
pub mod Synonyms
-- Types whose variables are numbered from 0 in the order in which they come first.
pub mod Numbered
-- The types of what is built in and of constructors.
pub mod BuiltInTypes
-- The equations between types that the rules of a dependency group ask for.
pub mod Equations
-- Type inference: the types of a program's functions, group by group, and why there are none.
pub mod Inference
-- The types that tables of their own stand for.
pub mod SharedTypes
-- The equations, solutions and clashes that values of the code stand for.
pub mod Meaning
-- Why inference gives no interface.
pub mod TypeFaults
-- What follows from the definitions of solutions, clashes, interfaces and faults.
pub mod Laws
-- Programs whose equations are worked out by hand.
pub mod Samples
-- What private contracts and invariants of loops say.
pub mod Inside
