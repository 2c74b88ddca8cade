pub mod Listed
pub mod Lent
pub mod Front
