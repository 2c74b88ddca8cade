pub mod Kept
pub mod Greatest
mod Place
