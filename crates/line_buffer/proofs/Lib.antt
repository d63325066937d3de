pub mod BufferDepth
pub mod Buffer
pub mod Taking
