pub mod Macs
pub mod Table
