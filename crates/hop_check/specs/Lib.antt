pub mod Hop
pub mod Inner
