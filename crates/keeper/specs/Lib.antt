pub mod Order
pub mod Kept
pub mod Greatest
pub mod Cells
