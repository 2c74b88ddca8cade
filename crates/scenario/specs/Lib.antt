pub mod Counts
pub mod Pairs
pub mod Table
pub mod PairsLemmas
