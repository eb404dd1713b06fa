pub mod Layout
pub mod Records
pub mod Chain
pub mod Inner
