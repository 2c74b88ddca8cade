pub mod Told
pub mod Meant
pub mod Talks
pub mod Served
pub mod Turns
pub mod Outcomes
pub mod Going
pub mod Spending
