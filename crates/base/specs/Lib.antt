pub mod Keys
pub mod Meaning
pub mod Asked
pub mod Senders
