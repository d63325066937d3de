pub mod Meaning
pub mod After
pub mod Built
pub mod Neat
