pub mod Lent
pub mod Position
pub mod Settings
pub mod Calls
pub mod Header
