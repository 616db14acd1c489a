pub mod ListedCells
pub mod SetMarks
pub mod Fields
pub mod Following
pub mod Closed
pub mod FoundCells
