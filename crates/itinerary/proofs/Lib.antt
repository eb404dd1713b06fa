pub mod Stations
pub mod Bound
pub mod Cases
