-- The texts of the modules that are built in.
pub mod BuiltIn
