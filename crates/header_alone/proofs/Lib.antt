pub mod Entered
pub mod Followed
pub mod HeaderAlone
