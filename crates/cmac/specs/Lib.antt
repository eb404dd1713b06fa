pub mod Cmac
