pub mod Scans
pub mod Links
pub mod Unique
pub mod Entries
