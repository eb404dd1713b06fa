pub mod Kept
pub mod IndexSet
pub mod HeaderAsked
