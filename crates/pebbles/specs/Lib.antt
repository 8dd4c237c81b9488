pub mod Levels
pub mod Places
pub mod Runs
pub mod Draws
