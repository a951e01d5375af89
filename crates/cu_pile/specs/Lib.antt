-- In the order in which to read them.

-- What seats at a round's table know.
pub mod Seats
-- The rule of a round's table.
pub mod Drawn
-- What a worker and a round answer.
pub mod Outcomes
-- What private contracts and the steps of seats say.
pub mod Inside
