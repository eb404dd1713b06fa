pub mod Questions
pub mod Lengths
pub mod Inner
