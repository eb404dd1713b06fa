pub mod Joint
pub mod Inner
