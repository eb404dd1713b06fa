pub mod Complete
pub mod Runs
