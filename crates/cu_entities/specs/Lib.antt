-- In the order in which to read them.

-- What the declarations of modules make.
pub mod Entities
-- Names that are bound to entities.
pub mod Bindings
-- What entities of the code stand for, under a table of names.
pub mod EntityMeaning
-- Entities, each once.
pub mod EntitySets
-- Tables of what names mean, under a table of names.
pub mod NameTables
