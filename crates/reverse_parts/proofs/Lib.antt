pub mod Flags
pub mod FieldOrder
pub mod FieldSwap
pub mod ReversedLengths
pub mod ReversedInfos
