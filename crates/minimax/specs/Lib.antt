pub mod Structs
pub mod Report
pub mod State
pub mod Completed
