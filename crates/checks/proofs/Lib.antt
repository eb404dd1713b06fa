pub mod Unasked
pub mod Read
