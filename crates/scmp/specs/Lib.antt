pub mod Scmp
