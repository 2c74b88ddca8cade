pub mod Cells
pub mod Decoded
pub mod Sheets
pub mod Tables
pub mod Lawfuls
pub mod Meanings
