pub mod Packed
pub mod With
pub mod Rows
pub mod Answers
pub mod Cursor
