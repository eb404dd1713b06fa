pub mod Soundness
pub mod Inner
