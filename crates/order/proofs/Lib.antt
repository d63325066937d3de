pub mod OrderMarks
pub mod OrderLeft
pub mod OrderSteps
