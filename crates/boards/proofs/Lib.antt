pub mod Packed
pub mod Rows
pub mod With
pub mod RowsHash
pub mod Cursor
pub mod CursorRest
pub mod Answers
