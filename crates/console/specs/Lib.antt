pub mod Numbers
pub mod Requests
pub mod Words
