pub mod Notes
pub mod Replies
pub mod Rows
pub mod Statements
pub mod Texts
