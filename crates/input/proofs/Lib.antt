pub mod LinesReads
pub mod Lines
pub mod LinesWhole
