pub mod Scanners
pub mod Claimed
pub mod Opened
pub mod Claims
pub mod ScanInProgress
pub mod Fields
pub mod ScannedRecords
