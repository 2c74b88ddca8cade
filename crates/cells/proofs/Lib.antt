pub mod Rowed
pub mod CellsMemory
