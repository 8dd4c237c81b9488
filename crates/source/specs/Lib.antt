pub mod Sources
pub mod Sizes
pub mod Chains
pub mod Meanings
pub mod Runs
