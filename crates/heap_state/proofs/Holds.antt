pub mod Still
pub mod CellsHold
pub mod Keeping
