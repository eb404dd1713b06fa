pub mod Answer
pub mod Questions
pub mod Outcome
