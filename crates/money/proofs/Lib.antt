mod Written
mod Found
pub mod Paying
mod Settled
