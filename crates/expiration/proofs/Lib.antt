pub mod Along
pub mod Expiry
