pub mod Clocks
pub mod Places
pub mod Receivers
pub mod Answers
pub mod Nodes
