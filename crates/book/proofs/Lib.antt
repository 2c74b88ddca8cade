pub mod Fills
pub mod Readings
pub mod Facts
