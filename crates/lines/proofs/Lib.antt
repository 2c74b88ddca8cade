pub mod Decimals
pub mod Room
