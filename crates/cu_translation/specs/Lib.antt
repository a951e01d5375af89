-- In the order in which to read them.

-- The tree of a list of items whose operands fit their operators: of all trees of the items, the
-- one that is grouped.
pub mod GroupedTree
-- The rules of functions as they stand in a text.
pub mod Rules
-- The names that are declared inside a function, and what is in scope at a spot of its text.
pub mod LocalNames
-- All that stands in the text of a function, in the order of the text, each with the spot where it
-- stands: the local functions around it, and the local names in scope there.
pub mod Sites
-- The variables and the local functions of a top-level function, each once, in the order of the
-- text.
pub mod Numbering
-- Which variables local functions capture, and on which ones local variables depend.
pub mod Dependencies
-- What the translation of a text knows of the names in it: those of top level, and how the
-- variables and local functions of its function are numbered.
pub mod Around
-- The terms that source forms are made of: calls, lists, tuples, literals and distinctions.
pub mod Terms
-- What patterns of the source stand for.
pub mod PatternTable
-- Blocks of local declarations: the free variables, and inside these the other variables, each
-- after those on which its definition depends.
pub mod Blocks
-- The table: what each form of an expression stands for, as a term before lifting.
pub mod Table
-- What types of the source stand for.
pub mod TypeTable
-- The local functions of a top-level function: those of blocks, those of lambda expressions, those
-- that select the variables of patterns, and those of comprehensions.
pub mod LocalFunctions
-- The operations that are built in, in the order in which the Prelude has them, with their types.
pub mod Externals
-- The entities of modules as numbers: data types, constructors, synonyms and functions are each
-- numbered over all modules, in the order of the modules and then of the text.
pub mod Numbered
-- What the names of top level refer to in a module among others.
pub mod ModuleNames
-- The top-level functions of modules, and the function of a goal.
pub mod Functions
-- The data types and the synonyms of a module, with those that are built in.
pub mod ModuleTypes
-- The part of a program that a module is translated to, and the part of a goal.
pub mod Parts
-- Faults of a text, and which of them is the first.
pub mod FaultOrder
-- What is wrong with the functions of a module, or with a goal: each fault with its place in the
-- text.
pub mod Faults
-- What a module, or a goal, is translated to, or why it is refused.
pub mod Translation
-- What the answers of the translation tell.
pub mod Answer
-- What the types of the code stand for.
pub mod Meaning
-- Small texts as trees, in a module after a Prelude of a few functions and the module SetFunctions.
pub mod Samples
-- What the samples are translated to, as the table has it.
pub mod Worked
-- What further samples are translated to: blocks inside functions, and what depends on what.
pub mod WorkedBlocks
-- What the modules of the samples are translated to: SetFunctions, and the module M after it.
pub mod WorkedParts
-- Samples that are refused, and where.
pub mod WorkedFaults
