pub mod Tag
pub mod Chain
