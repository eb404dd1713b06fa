pub mod Meta
pub mod Header
