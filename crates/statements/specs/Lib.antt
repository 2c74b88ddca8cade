pub mod Figured
pub mod Stated
