pub mod Station
pub mod Inner
