pub mod Whole
pub mod Numbers
pub mod Unchecked
pub mod Editions
