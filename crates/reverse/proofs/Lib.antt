pub mod Reversible
pub mod Reversed
