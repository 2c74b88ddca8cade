pub mod Marking
pub mod Reading
pub mod Splitting
