pub mod Chains
pub mod Every
pub mod Forms
pub mod Walks
