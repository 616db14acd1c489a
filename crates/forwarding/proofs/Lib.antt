pub mod FirstWords
pub mod CopyStages
pub mod Finding
pub mod CellLinks
pub mod Ordering
pub mod WorkedOut
pub mod CopyRows
