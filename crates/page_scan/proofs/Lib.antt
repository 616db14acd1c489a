pub mod ReadHeaders
mod ReadWords
pub mod ScanMeasure
pub mod ScanSteps
pub mod Replacing
pub mod Packed
pub mod ScannedPages
pub mod Boards
pub mod WorkedOut
pub mod WorkedPacked
pub mod ScanRows
