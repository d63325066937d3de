pub mod Claims
pub mod Demand3
pub mod Demand2
pub mod Demand1
pub mod Searches
pub mod Evaluations
pub mod Twelve
