pub mod TagLaws
pub mod LengthBlock
pub mod ChainLaws
pub mod TagBytes
