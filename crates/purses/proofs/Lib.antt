mod Rows
mod Searched
pub mod Spent
