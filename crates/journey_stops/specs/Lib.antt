pub mod Number
pub mod Stop
pub mod Told
