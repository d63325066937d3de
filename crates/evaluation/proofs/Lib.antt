pub mod ValuesLines
pub mod ValuesBoards
pub mod ValuesOverall
pub mod ValuesAfter
pub mod ValuesEnds
