pub mod Meaning
pub mod Number
