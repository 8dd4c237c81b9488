pub mod Parts
pub mod Steps
pub mod Stages
pub mod Releasing
pub mod Walks
pub mod Playing
pub mod Counting
pub mod Replays
