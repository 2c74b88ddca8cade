pub mod Greatest
pub mod Numbers
pub mod Questions
pub mod Steps
pub mod Taken
pub mod Workings
