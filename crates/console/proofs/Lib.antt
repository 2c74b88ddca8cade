pub mod Digits
pub mod Front
pub mod Cutting
