-- What is listed of a goal in a module, and the solutions that the goal has.
pub mod Listed
