pub mod Lines
pub mod Promises
pub mod Feeding
pub mod Examples
