pub mod Means
pub mod Parts
