pub mod Touched
pub mod Lent
