-- In the order in which to read them.

-- Type expressions.
pub mod TypeExpr
-- Kernel programs, and the program of the calculus that each is.
pub mod Kernel
-- The types that every program begins with.
pub mod FirstTypes
-- Which kernel programs are valid.
pub mod Valid
-- Terms before lambda lifting.
pub mod LocalTerm
-- Programs before lifting, and two of them joined.
pub mod LocalKernel
-- Which variables are free in a term, and which a local function captures.
pub mod Captures
-- What is asked of a program before lifting, of each part alone and of all parts joined.
pub mod LocalValid
-- The tests by which the code decides whether a kernel program is valid.
pub mod Tests
-- The types that the code's boxed types stand for.
pub mod TypesOf
-- The patterns and terms that the code's boxed ones stand for.
pub mod TermsOf
-- The kernel program that the code's parts stand for.
pub mod KernelOf
-- The functions and constructors that a table of heads has.
pub mod Heads
-- The terms before lifting that the code's boxed terms stand for.
pub mod LocalTermsOf
-- The program before lifting that the code's parts stand for.
pub mod LocalKernelOf
-- How types are told apart.
pub mod TypeStored
-- How patterns, terms and bodies are told apart.
pub mod TermStored
-- How kernel programs are told apart.
pub mod KernelStored
-- How programs before lifting are told apart.
pub mod LocalStored
-- What private contracts and invariants of loops say.
pub mod Inside
