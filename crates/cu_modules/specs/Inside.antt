-- What private contracts and invariants of loops say. No public contract speaks of it. In the order
-- in which to read them.

-- What a scope of the code stands for, under a table of names.
pub mod Binding
-- What modules on the path have still to do, the innermost first.
pub mod Frames
-- What imports of the code stand for, under a table of names.
pub mod Imported
-- Which entities the entries of import and export lists name, by the numbers of names.
pub mod Lists
-- What the entries of export lists name.
pub mod Exporting
-- What comes of one module, given the interfaces of those before it.
pub mod Outcome
-- What is in scope in a module, under a table of names.
pub mod Scoped
-- What private contracts of scopes say.
pub mod Scoping
-- What functions tell of what is wrong with names.
pub mod Telling
-- How far a walk has come, under a table of names.
pub mod Progress
