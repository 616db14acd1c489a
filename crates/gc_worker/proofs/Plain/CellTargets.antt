pub mod Emptied
pub mod EmptyCells
pub mod Followed
pub mod KeptCells
pub mod LostCells
