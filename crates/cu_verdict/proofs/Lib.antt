-- What the crate's proofs share.

-- Calls of goals.
pub mod CallLaws
-- Values of variables.
pub mod ValueLaws
-- Answers.
pub mod AnswerLaws
