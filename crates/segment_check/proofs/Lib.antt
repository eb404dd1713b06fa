pub mod All
pub mod Chain
pub mod Walked
