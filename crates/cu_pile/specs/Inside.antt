-- What private contracts and the steps of seats say. No public contract speaks of it.

-- What a step of a seat tells it.
pub mod Steps
