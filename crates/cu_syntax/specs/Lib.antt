-- In the order in which to read them.

-- The syntax of Curry modules and goals as trees.
pub mod Syntax
-- The grammar of Curry modules and goals, as a parsing expression grammar: a rule for each symbol.
pub mod Table
-- What the trees of the grammar mean, as syntax.
pub mod Reading
-- What the tokens of a module or a goal are read as, or the first fault in them.
pub mod Parsing
-- Laws of what tokens are read as.
pub mod Law
-- What names and literals of the syntax stand for, under a table of names.
pub mod Names
-- Parts of syntax whose tokens are those of a module, with names that a table has.
pub mod Owners
-- What parts of the trees that the parsers give stand for, and how they lie in these trees.
pub mod Subtrees
-- What a part of a tree stands for, under a table of names.
pub mod SubtreeMeaning
-- What the parsers' answers stand for, under a table of names.
pub mod Answer
-- What types of the trees stand for, under a table of names.
pub mod Types
-- What patterns of the trees stand for, under a table of names.
pub mod Patterns
-- Which expression a part of a tree is, under a table of names.
pub mod ExpressionMeaning
-- What declarations of the trees stand for, under a table of names.
pub mod Declarations
-- What expressions of the trees stand for, under a table of names.
pub mod Expressions
-- What items of modules stand for, under a table of names.
pub mod Items
-- How many parts a node may have, by the grammar.
pub mod Formed
-- How large syntax is: the size of a whole is larger than that of each of its parts, so that a
-- function may call itself on the parts.
pub mod Sizes
-- How large views are, and that what a view tells is smaller than the view.
pub mod Smaller
-- Which symbols of the grammar stand for what kind of syntax.
pub mod Forms
-- The symbols of a module's items.
pub mod ItemSymbols
-- What private contracts and invariants of loops say.
pub mod Inside
