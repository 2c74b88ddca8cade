pub mod Slots
pub mod Held
