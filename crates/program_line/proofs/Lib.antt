pub mod AnsweredBounds
pub mod Answered
