pub mod KeyWords
pub mod NextWords
