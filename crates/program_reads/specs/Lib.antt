pub mod Lines
pub mod Promises
