pub mod Ghost
pub mod WorkedRecords
pub mod WorkedPages
pub mod Spaces
pub mod WorkedWorkers
pub mod WorkedStands
pub mod Broken
pub mod Out
