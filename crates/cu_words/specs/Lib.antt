-- In the order in which to read them.

-- The names of modules.
pub mod Names
-- The numbers of options.
pub mod Numbers
-- The command line, as the library `clap` has it: the names of its commands and of the words and
-- options that follow them.
pub mod Command
-- What the words of a command line ask for.
pub mod Words
-- What the lines of a session ask for.
pub mod Requests
