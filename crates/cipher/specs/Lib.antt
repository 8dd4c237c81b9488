pub mod Bytes
pub mod Keys
pub mod Blocks
pub mod Rc5
pub mod Adding
pub mod Makes
