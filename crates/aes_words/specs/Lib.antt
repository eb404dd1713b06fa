pub mod Block
pub mod Words
