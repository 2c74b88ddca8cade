pub mod Shown
pub mod Entered
