-- What the asker that counts answers.
pub mod Counter
