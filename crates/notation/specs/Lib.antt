pub mod Parsed
pub mod Parts
