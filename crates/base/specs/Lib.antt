pub mod Branch
pub mod Lists
pub mod Update
pub mod Integers
pub mod Bits
pub mod Checks
pub mod LineFeed
