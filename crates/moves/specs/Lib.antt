pub mod Moves
pub mod Inner
