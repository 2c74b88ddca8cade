pub mod Ranking
pub mod Summing
