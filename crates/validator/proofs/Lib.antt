pub mod Schedule
pub mod Unasked
