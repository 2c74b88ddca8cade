pub mod Made
pub mod Lots
