pub mod Finds
pub mod Records
pub mod Sameness
pub mod Tabled
