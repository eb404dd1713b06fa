pub mod Lengths
pub mod Peering
