pub mod Cipher
pub mod ByTable
