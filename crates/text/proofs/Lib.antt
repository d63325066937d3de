pub mod Writing
pub mod ReadingScan
pub mod Reading
pub mod WritingRoundTrip
pub mod MoveText
pub mod Examples
pub mod ProgramLine
pub mod Padded
