pub mod Moved
pub mod Inside
pub mod Steps
