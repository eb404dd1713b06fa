pub mod Stations
pub mod Verdicts
