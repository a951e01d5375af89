-- In the order in which to read them.

-- The entities that modules have without a declaration.
pub mod BuiltInEntities
-- The entities of a module: those that it declares, and those that it has without a declaration.
pub mod OwnEntities
-- Which entities a module's names mean, and which of them the module exports.
pub mod Scopes
-- What is wrong with the names of a module.
pub mod Faults
-- What the text of a module is read as.
pub mod Texts
-- The modules that a root reaches by its imports: depth first in the order of the texts, each once,
-- imports before importers.
pub mod Walk
-- What the names of modules mean.
pub mod Means
-- What lists of entities stand for, under a table of names.
pub mod Known
-- What the answers of `order` stand for, under a table of names.
pub mod Ordering
-- What the exports of modules stand for, under a table of names.
pub mod Exports
-- What the answers of `scope` and `scope_goal` stand for, under a table of names.
pub mod ScopeAnswers
-- What `read` tells of the text of a module.
pub mod Reading
-- What is found of the imports of modules.
pub mod Imports
-- What private contracts and invariants of loops say.
pub mod Inside
