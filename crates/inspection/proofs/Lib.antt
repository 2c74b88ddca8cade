pub mod Accepted
pub mod Everies
