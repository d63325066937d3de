pub mod Scores
pub mod Records
pub mod RecordsAgreed
