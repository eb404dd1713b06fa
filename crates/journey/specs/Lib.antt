pub mod Journey
pub mod Check
pub mod Verdict
