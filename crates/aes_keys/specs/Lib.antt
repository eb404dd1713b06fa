pub mod KeyExpansion
pub mod Inner
