pub mod Blocks
pub mod CmacLaws
pub mod Doubling
