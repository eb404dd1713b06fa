pub mod Lists
pub mod Bools
pub mod Below
pub mod Xor
pub mod FromFn
