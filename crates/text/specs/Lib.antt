pub mod Bytes
pub mod Reading
pub mod Writing
pub mod MoveText
pub mod ProgramLine
pub mod Padded
