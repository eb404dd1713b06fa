pub mod Expiration
