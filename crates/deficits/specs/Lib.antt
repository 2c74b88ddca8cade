pub mod Ahead
pub mod Summed
