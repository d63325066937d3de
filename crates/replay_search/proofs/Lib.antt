pub mod Digests
pub mod Records
pub mod Chains
pub mod ChainsSearched
pub mod ChainsLines
pub mod ChainsAgreed
