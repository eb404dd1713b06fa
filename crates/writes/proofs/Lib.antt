pub mod SegIdSet
pub mod AlertCleared
