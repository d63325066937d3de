pub mod RulesGame
pub mod TruthWins
pub mod Truth
pub mod Answers
pub mod RulesGameExamples
