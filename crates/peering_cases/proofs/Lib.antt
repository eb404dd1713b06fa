pub mod Step
pub mod Journey
