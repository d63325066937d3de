pub mod RulesGame
pub mod Answers
pub mod Truth
