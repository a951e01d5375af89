-- In the order in which to read them.

-- Kinds of nodes in eight bytes.
pub mod Small
-- Nodes in flat arrays.
pub mod FlatArrays
-- What private contracts say.
pub mod Inside
