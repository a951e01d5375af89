-- What private contracts say. No public contract speaks of it.

-- What is packed, and what stays where arrays grow.
pub mod Packing
