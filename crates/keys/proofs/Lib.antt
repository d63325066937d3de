pub mod KeysPast
pub mod KeysRange
