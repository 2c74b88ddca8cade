pub mod Meant
pub mod Replied
