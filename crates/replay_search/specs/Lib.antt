pub mod Digests
pub mod Records
pub mod Chains
