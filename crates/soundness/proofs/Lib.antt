pub mod Chains
pub mod Merge
