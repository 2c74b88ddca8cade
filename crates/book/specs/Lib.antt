pub mod Filled
pub mod Funded
pub mod Standings
pub mod Tabled
pub mod Means
pub mod Pledged
pub mod Ledgers
