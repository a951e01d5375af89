-- In the order in which to read them.

-- Which tokens a class has.
pub mod Classes
-- The trees that a grammar gives of texts, and how they are spelled as lists of nodes.
pub mod Parse
-- What the rows of a grammar match: the big-step semantics of parsing expressions, with the trees
-- that they give.
pub mod Matches
-- What matching answers, over tokens with their names as texts.
pub mod Result
-- Conditions that suffice for the rows of a grammar to match or fail on every text, after those of
-- well-formed parsing expression grammars.
pub mod WellFormed
-- What the making of a grammar answers.
pub mod Answer
-- Laws of the definition of matching.
pub mod Law
-- Trees of texts, read off their nodes from the right end.
pub mod Spelling
-- In which order the rows of a grammar are matched at one place: each after those that it calls
-- there.
pub mod Order
-- What private contracts and invariants of loops say.
pub mod Inside
