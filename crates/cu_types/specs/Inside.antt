-- What private contracts and invariants of loops say. No public contract speaks of it. In the order
-- in which to read them.

-- Disjoint classes of the numbers below a bound, as trees of parents.
pub mod Classes
-- Classes of the places of a table, joined until they agree with its equations and with its shapes.
pub mod Closing
-- The classes of a table in an order in which each stands after the classes of its arguments: a
-- depth-first walk.
pub mod Ordering
-- A class that uses itself: a type of it that stands inside a type that is made equal to it.
pub mod Cycles
-- What solving equations between the types of a table comes to.
pub mod Solving
-- The types of another table, in which each variable is replaced.
pub mod Replacing
-- What is known of functions while the types of a group are inferred.
pub mod Knowing
-- How many type variables instances of types take, shape by shape.
pub mod Breadths
-- Reading types into a table.
pub mod Reading
-- Reading a type with a stack of its own: what is still to do, and the types that were made.
pub mod Tasks
-- Equations that are read off rules, as pairs of places in a table of types.
pub mod Asking
-- The type variables of variables, in a map.
pub mod Variables
-- Reading equations off patterns and terms.
pub mod Walking
-- Types in which synonyms are expanded, shape by shape.
pub mod Expanding
-- The types of constructors and of what is built in, as they are put together.
pub mod Building
-- Numbering the variables of a type: a walk with a stack of its own, in which each type of a table
-- is made once.
pub mod Numbering
-- The equations of a group's functions, by what is known of these.
pub mod Members
-- What is known of functions while the types of a group are inferred: before, while its equations
-- are solved, and after.
pub mod Grouping
-- Groups of a program one after another, and what comes of each.
pub mod Inferring
-- Types that are added to the table of a solution.
pub mod Growing
-- Whether a substitution keeps to the declared types of a group, member by member.
pub mod Keeping
