-- What demands and patterns of the code stand for, and the patterns for the arguments of one.
pub mod Meaning
